-- The laws of codecs that make an array of an array.
use Rattle.std.proofs.Common.{◌≡◌, ℕ, ◌*◌, ◌^◌, Bool, true, false, cond, eqb, ◌&&◌, List, [], ◌∷◌, length, get_or, refl}
use Rattle.std.proofs.Common.{sym, ap, ◌∙◌, arith}
use Rattle.std.specs.Prelude.{nat_lt}
use Rattle.std.specs.List.{list_all}
use Rattle.std.proofs.lemmas.Bool.{eqb-true, and_parts}
use Rattle.std.proofs.lemmas.List.Sums.{AllPass-from_list_all}
use Rattle.zarrs_data_type.specs.Cell.{Cell, none}
use Rattle.zarrs_subset.specs.Boxes.{position_count, InShape, place}
use Rattle.zarrs_subset.specs.Rearranged.{made_of}
use Rattle.zarrs_subset.proofs.Kernel.{place_below}
use Rattle.zarrs_subset.proofs.RearrangedCells.{length-made_of, made_of-same, read_all, made_at, all-made_of}
use Rattle.zarrs_codec_array.specs.Arrays.{ArrayMeaning, IsLawfulArray, same_array, and_then, rearranged, transposed}
use Rattle.zarrs_codec_array.specs.Arrays.{keeping_cells, Extent, reshape_shape, names_within, reshaped, squeeze_shape, squeezed}
use Rattle.zarrs_codec_array.specs.Orders.{is_order, permuted, inverse}
use Rattle.zarrs_codec_array.specs.OrderLaws.{permuted_in, inverse_in, there_and_back, count-permuted}

pub same_array-lawful : IsLawfulArray same_array
same_array-lawful = record {
  count = λ s fit. refl;
  round_trip = λ s cs fit len. refl;
  forward_len = λ s cs fit len. len;
  back_len = λ s cs fit len. len;
  forward_all = λ v s cs fit len all. all;
  back_all = λ v s cs fit len all. all;
}

pub and_then-lawful : (a b : ArrayMeaning) → IsLawfulArray a → IsLawfulArray b → IsLawfulArray (and_then a b)
and_then-lawful a b la lb = record {
  count = λ s fit.
      let f = and_parts (a.fits s) (b.fits (a.shape s)) fit in
      lb.count (a.shape s) f.1 ∙ la.count s f.0;
  round_trip = λ s cs fit len.
      let f = and_parts (a.fits s) (b.fits (a.shape s)) fit in
      let n = la.count s f.0 in
      ap (a.back s) (lb.round_trip (a.shape s) (a.forward s cs) f.1 (la.forward_len s cs f.0 len ∙ sym n)) ∙ la.round_trip s cs f.0 len;
  forward_len = λ s cs fit len.
      let f = and_parts (a.fits s) (b.fits (a.shape s)) fit in
      let n = la.count s f.0 in
      lb.forward_len (a.shape s) (a.forward s cs) f.1 (la.forward_len s cs f.0 len ∙ sym n) ∙ n;
  back_len = λ s cs fit len.
      let f = and_parts (a.fits s) (b.fits (a.shape s)) fit in
      let n = la.count s f.0 in
      la.back_len s (b.back (a.shape s) cs) f.0 (lb.back_len (a.shape s) cs f.1 (len ∙ sym n) ∙ n);
  forward_all = λ v s cs fit len all.
      let f = and_parts (a.fits s) (b.fits (a.shape s)) fit in
      let n = la.count s f.0 in
      lb.forward_all v (a.shape s) (a.forward s cs) f.1 (la.forward_len s cs f.0 len ∙ sym n) (la.forward_all v s cs f.0 len all);
  back_all = λ v s cs fit len all.
      let f = and_parts (a.fits s) (b.fits (a.shape s)) fit in
      let n = la.count s f.0 in
      la.back_all v s (b.back (a.shape s) cs) f.0 (lb.back_len (a.shape s) cs f.1 (len ∙ sym n) ∙ n) (lb.back_all v (a.shape s) cs f.1 (len ∙ sym n) all);
}

-- ---- `transpose`

module _ (order s : List ℕ) (is : is_order order ≡ true) (long : length order ≡ length s) where
  rearranged_again : (cs : List Cell) → length cs ≡ position_count s
      → rearranged s (permuted order s) order (rearranged (permuted order s) s (inverse order) cs) ≡ cs
  rearranged_again cs len =
      let t = permuted order s in
      let F : List ℕ → Cell = λ q. get_or cs (place s (permuted (inverse order) q)) none in
      made_of-same (λ p. get_or (made_of F t) (place t (permuted order p)) none) (λ p. get_or cs (place s p) none) s
      (λ p within.
      made_at F t (permuted order p) none (permuted_in order is s long p within)
      ∙ ap (λ r. get_or cs (place s r) none) (there_and_back order is s long p within))
      ∙ read_all s cs none len

pub rearranged_values : (v : Cell → Bool) (target source way : List ℕ) (cs : List Cell)
    → ((q : List ℕ) → InShape target q → InShape source (permuted way q)) → length cs ≡ position_count source → list_all v cs ≡ true
    → list_all v (rearranged target source way cs) ≡ true
rearranged_values v target source way cs within len all =
    all-made_of v (λ q. get_or cs (place source (permuted way q)) none) target
    (λ q is. AllPass-from_list_all v cs all (place source (permuted way q)) none (let below = place_below source (permuted way q) (within q is) in omega arith))

pub transposed-lawful : (order : List ℕ) → is_order order ≡ true → IsLawfulArray (transposed order)
transposed-lawful order is = record {
  count = λ s fit. count-permuted order is s (eqb-true (length order) (length s) fit);
  round_trip = λ s cs fit len. rearranged_again order s is (eqb-true (length order) (length s) fit) cs len;
  forward_len = λ s cs fit len.
      length-made_of (λ q. get_or cs (place s (permuted (inverse order) q)) none) (permuted order s)
      ∙ count-permuted order is s (eqb-true (length order) (length s) fit);
  back_len = λ s cs fit len. length-made_of (λ q. get_or cs (place (permuted order s) (permuted order q)) none) s;
  forward_all = λ v s cs fit len all.
      rearranged_values v (permuted order s) s (inverse order) cs (inverse_in order is s (eqb-true (length order) (length s) fit)) len all;
  back_all = λ v s cs fit len all.
      let long = eqb-true (length order) (length s) fit in
      rearranged_values v s (permuted order s) order cs (permuted_in order is s long) (len ∙ sym (count-permuted order is s long)) all;
}

-- ---- `reshape` and `squeeze`

pub keeping_cells-lawful : (fits : List ℕ → Bool) (shape : List ℕ → List ℕ)
    → ((s : List ℕ) → fits s ≡ true → position_count (shape s) ≡ position_count s) → IsLawfulArray (keeping_cells fits shape)
keeping_cells-lawful fits shape count = record {
  count = count;
  round_trip = λ s cs fit len. refl;
  forward_len = λ s cs fit len. len;
  back_len = λ s cs fit len. len;
  forward_all = λ v s cs fit len all. all;
  back_all = λ v s cs fit len all. all;
}

pub reshaped-lawful : (entries : List Extent) → IsLawfulArray (reshaped entries)
reshaped-lawful entries =
    keeping_cells-lawful _ (reshape_shape entries)
    (λ s fit.
    eqb-true (position_count (reshape_shape entries s)) (position_count s)
    (and_parts (list_all (names_within s) entries && list_all (λ n. nat_lt n (2 ^ 64)) (reshape_shape entries s)
    && nat_lt (position_count s) (2 ^ 64)) _ fit).1)

squeeze_step : (n : ℕ) (s : List ℕ) (b : Bool) → eqb n 1 ≡ b → position_count (squeeze_shape s) ≡ position_count s
    → position_count (cond b (squeeze_shape s) (n ∷ squeeze_shape s)) ≡ n * position_count s
squeeze_step n s true is rest = let one : n ≡ 1 = eqb-true n 1 is in rest ∙ (let e : position_count s ≡ 1 * position_count s = omega arith in e)
    ∙ ap (λ x. x * position_count s) (sym one)
squeeze_step n s false is rest = ap (λ x. n * x) rest

count-squeeze : (s : List ℕ) → position_count (squeeze_shape s) ≡ position_count s
count-squeeze [] = refl
count-squeeze (n ∷ s) = squeeze_step n s (eqb n 1) refl (count-squeeze s)

pub squeezed-lawful : IsLawfulArray squeezed
squeezed-lawful = keeping_cells-lawful (λ s. true) squeeze_shape (λ s fit. count-squeeze s)
