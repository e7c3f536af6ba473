-- Data whose cells are taken in another order, kind by kind.
use Rattle.std.proofs.Common.{◌≡◌, ℕ, ◌+◌, ◌*◌, ◌<◌, true, false, cond, eqb, ◌&&◌, List, [], length, map, get_or, None}
use Rattle.std.proofs.Common.{Some, sym, ap, ◌∙◌, subst, arith}
use Rattle.std.specs.Prelude.{slice_index, slice_index_or, All}
use Rattle.std.proofs.lemmas.Bool.{eq-eqb, and_from}
use Rattle.std.proofs.lemmas.List.{length-map, get_or-map, get_or_default}
use Rattle.std.proofs.lemmas.List.FromFn.{get_or-map-range_with_len}
use Rattle.std.proofs.lemmas.List.Sums.{AllPass-from_list_all}
use Rattle.zarrs_data_type.specs.Kind.{Kind, element_size, is_variable, inner_of}
use Rattle.zarrs_data_type.specs.Cell.{Cell, bytes, none, some, is_value, are_values}
use Rattle.zarrs_data_type.specs.ArrayData.{ArrayData, fixed, variable, optional}
use Rattle.zarrs_data_type.specs.Cells.{fits, cell_at, cells}
use Rattle.zarrs_data_type_bytes.proofs.Cells.{IsSized, cells-as, cells-parts, cells-values}
use Rattle.zarrs_data_type_bytes.proofs.Filled.{cell_at-fixed}
use Rattle.zarrs_subset.specs.Boxes.{position_count, InShape, place, unravel}
use Rattle.zarrs_subset.proofs.Kernel.{place_below, piece_at-same, cell_ends}
use Rattle.zarrs_subset.proofs.Positions.{unravel_in, place-unravel}
use Rattle.zarrs_subset.proofs.RearrangedCells.{length-made_of, get_or-made_of}
use Rattle.zarrs_codec_array.specs.Arrays.{rearranged}
use Rattle.zarrs_codec_array.specs.ArrayLaws.{rearranged_values}
use Rattle.zarrs_codec_array.specs.Orders.{dot_product, scaled, permuted}
use Rattle.zarrs_codec_array.specs.Gathered.{IsGathered, AreWithin, IsTaken, walked}
use Rattle.zarrs_codec_array.proofs.Transposing.{dot-scaled}
use Rattle.zarrs_codec_array.proofs.Walks.{length-walked, walked_at}

pub taken-fixed : (k : Kind) (size n : ℕ) (shape steps b made : List ℕ) → element_size k ≡ Some size → length b ≡ n * size → length made ≡ position_count shape * size
    → AreWithin 1 shape steps 0 n → IsGathered size shape (scaled size steps) 0 b made → IsTaken k shape steps (fixed b) (fixed made)
taken-fixed k size n shape steps b made is len len' within gathered = record {
  fits = ap (λ o. elim o [ None ↦ false | Some s ↦ eqb (length made) (position_count shape * s) ]) is ∙ eq-eqb (length made) (position_count shape * size) len';
  same = λ q inside.
      let below = place_below shape q inside in
      let there : dot_product steps q < n = (let room = within.each q inside in omega arith) in
      cell_at-fixed k size made (place shape q) is
      ∙ ap bytes
      (piece_at-same size (place shape q) (dot_product steps q) made b (cell_ends size (place shape q) (position_count shape) (length made) below len') (cell_ends size (dot_product steps q) n (length b) there len)
      (λ j lt. gathered.same q j inside lt ∙ ap (λ x. get_or b x 0) (let d = dot-scaled size steps q in omega arith)))
      ∙ sym (cell_at-fixed k size b (dot_product steps q) is);
}

pub taken-variable : (k : Kind) (n : ℕ) (shape steps : List ℕ) (strings made : List (List ℕ)) → is_variable k ≡ true → length strings ≡ n → length shape ≡ length steps
    → AreWithin 1 shape steps 0 n → made ≡ map (λ i. slice_index_or strings i []) (walked shape steps 0) → IsTaken k shape steps (variable strings) (variable made)
taken-variable k n shape steps strings made is len long within all =
    let get : ℕ → List ℕ = λ i. slice_index_or strings i [] in
    let w = walked shape steps 0 in
    let len' : length made ≡ position_count shape = ap length all ∙ length-map w get ∙ length-walked shape steps 0 long in
    record {
      fits = and_from (is_variable k) (eqb (length made) (position_count shape)) is (eq-eqb (length made) (position_count shape) len');
      same = λ q inside.
          let below = place_below shape q inside in
          let zero_more : 0 + dot_product steps q ≡ dot_product steps q = omega arith in
          ap (λ l. bytes (get_or l (place shape q) [])) all
          ∙ ap bytes (get_or-map get w (place shape q) 0 [] (omega (arith, length-walked shape steps 0 long)))
          ∙ ap (λ i. bytes (get i)) (walked_at shape steps q 0 long inside ∙ zero_more);
    }

optional_at : (k u : Kind) (mask : List ℕ) (inner : ArrayData) (i : ℕ) → inner_of k ≡ Some u → cell_at k (optional mask inner) i ≡ cond (eqb (slice_index mask i) 0) none (some (cell_at u inner i))
optional_at k u mask inner i is = ap (λ o. cond (eqb (slice_index mask i) 0) none (elim o [ None ↦ none | Some v ↦ some (cell_at v inner i) ])) is

pub taken-optional : (k u : Kind) (shape steps mask made : List ℕ) (inner made_inner : ArrayData) → inner_of k ≡ Some u → length made ≡ position_count shape
    → IsGathered 1 shape (scaled 1 steps) 0 mask made → IsTaken u shape steps inner made_inner → IsTaken k shape steps (optional mask inner) (optional made made_inner)
taken-optional k u shape steps mask made inner made_inner is len gathered taken = record {
  fits = ap (λ o. elim o [ None ↦ false | Some v ↦ eqb (length made) (position_count shape) && fits v made_inner (position_count shape) ]) is
      ∙ and_from (eqb (length made) (position_count shape)) (fits u made_inner (position_count shape)) (eq-eqb (length made) (position_count shape) len) taken.fits;
  same = λ q inside.
      let at : place shape q * 1 + 0 ≡ place shape q = omega arith in
      let d = dot-scaled 1 steps q in
      let to : 0 + dot_product (scaled 1 steps) q + 0 ≡ dot_product steps q = omega arith in
      let flag : slice_index made (place shape q) ≡ slice_index mask (dot_product steps q) =
      ap (slice_index made) (sym at) ∙ gathered.same q 0 inside (omega arith) ∙ ap (slice_index mask) to in
      optional_at k u made made_inner (place shape q) is
      ∙ ap (λ x. cond (eqb x 0) none (some (cell_at u made_inner (place shape q)))) flag
      ∙ ap (λ c. cond (eqb (slice_index mask (dot_product steps q)) 0) none (some c)) (taken.same q inside)
      ∙ sym (optional_at k u mask inner (dot_product steps q) is);
}

-- the flags of a mask are flags in another order
pub flags-gathered : (n : ℕ) (shape steps mask made : List ℕ) → length mask ≡ n → length made ≡ position_count shape → AreWithin 1 shape steps 0 n → IsGathered 1 shape (scaled 1 steps) 0 mask made
    → All (λ b. b < 2) mask → All (λ b. b < 2) made
flags-gathered n shape steps mask made len len' within gathered flags i d lt =
    let below : i < position_count shape = omega arith in
    let q = unravel shape i in
    let inside = unravel_in shape i below in
    let at : place shape q * 1 + 0 ≡ i = omega (arith, place-unravel shape i below) in
    let to : 0 + dot_product (scaled 1 steps) q + 0 ≡ dot_product steps q = omega (arith, dot-scaled 1 steps q) in
    let there : dot_product steps q < length mask = (let room = within.each q inside in omega arith) in
    let flag : slice_index made i ≡ slice_index mask (dot_product steps q) =
    ap (slice_index made) (sym at) ∙ gathered.same q 0 inside (omega arith) ∙ ap (slice_index mask) to in
    omega (arith, flag, get_or_default made i d 0 lt, flags (dot_product steps q) 0 there)

-- the cells of data whose cells are taken in another order
pub taken-cells : (k : Kind) (d made : ArrayData) (cs : List Cell) (target source way steps : List ℕ) → IsSized k → cells k d ≡ Some cs → length cs ≡ position_count source → position_count target ≡ position_count source
    → IsTaken k target steps d made → ((q : List ℕ) → InShape target q → dot_product steps q ≡ place source (permuted way q)) → ((q : List ℕ) → InShape target q → InShape source (permuted way q))
    → cells k made ≡ Some (rearranged target source way cs)
taken-cells k d made cs target source way steps sized is len count taken place_is within =
    let F : List ℕ → Cell = λ q. get_or cs (place source (permuted way q)) none in
    let new = rearranged target source way cs in
    let n = position_count target in
    let len' : length new ≡ n = length-made_of F target in
    let parts = cells-parts k d cs is in
    let values : are_values k new ≡ true = rearranged_values (λ c. is_value k c) target source way cs within len (cells-values k d cs is) in
    cells-as k made new sized (subst (λ m. fits k made m ≡ true) (sym len') taken.fits)
    (λ i lt.
    let below : i < n = omega arith in
    let q = unravel target i in
    let inside = unravel_in target i below in
    let j = place source (permuted way q) in
    let there : j < length cs = omega (arith, place_below source (permuted way q) (within q inside)) in
    ap (cell_at k made) (sym (place-unravel target i below))
    ∙ taken.same q inside
    ∙ ap (cell_at k d) (place_is q inside)
    ∙ sym (ap (λ l. get_or l j none) parts.2 ∙ get_or-map-range_with_len (λ x. cell_at k d x) 0 (length cs) j j none there (omega arith))
    ∙ sym (get_or-made_of F target i none below))
    (λ i lt. AllPass-from_list_all (λ c. is_value k c) new values i none lt)
