-- What the codec `packbits` does with data.
use Rattle.std.proofs.Common.{◌≡◌, ℕ, zero, suc, ◌+◌, ◌-◌, ◌*◌, ◌/◌, ◌<◌, Bool, true, false, cond, eqb, ◌&&◌}
use Rattle.std.proofs.Common.{List, [], ◌∷◌, ◌++◌, length, map, take, drop, get_or, None, Some, refl, sym, ap, ◌∙◌}
use Rattle.std.proofs.Common.{subst, arith}
use Rattle.std.specs.Prelude.{All, IsSome, is_some, option_and_then, slice_range}
use Rattle.std.specs.Int.{div_ceil}
use Rattle.std.specs.Simd.{first_chunks}
use Rattle.std.proofs.lemmas.Bool.{false≢true, ltb-true, lt-ltb, eq-eqb, eqb-true, and_from}
use Rattle.std.proofs.lemmas.List.{get_or-take, get_or-drop, length-take, length-drop, take_all}
use Rattle.std.proofs.lemmas.List.Sums.{AllPass-from_list_all, list_all-from_AllPass}
use Rattle.std.proofs.lemmas.Simd.{map-map}
use Rattle.zarrs_data_type.specs.Kind.{Kind, element_size}
use Rattle.zarrs_data_type.specs.Kind as type
use Rattle.zarrs_data_type.specs.Cell.{bytes, may_hold}
use Rattle.zarrs_data_type.specs.ArrayData.{ArrayData, fixed}
use Rattle.zarrs_data_type.specs.Cells.{cells, HasCells}
use Rattle.zarrs_subset.specs.Pieces.{pieces}
use Rattle.zarrs_data_type_bytes.proofs.Fixed.{cells-held, cells-of, length-fixed, whole_cells, HasCells-fixed}
use Rattle.zarrs_data_type_bytes.proofs.Pieces.{pieces-one, pieces_more}
use Rattle.zarrs_codec_leaf.specs.Chosen.{map_same}
use Rattle.zarrs_codec_leaf.specs.Leaf.{encoding_of}
use Rattle.zarrs_codec_leaf.specs.PackBits.{is_bool, packed_byte, packed_len, packed, bits, flag_of, flag_cell, are_zero, packbits_meaning}
use Rattle.zarrs_codec_leaf.specs.PackBitsLaws.{length-flags, flags-small}
use Rattle.zarrs_codec_leaf.proofs.Encodings.{chunks-pieces}

pub bool_kind : (k : Kind) → is_bool k ≡ true → k ≡ type.bool
bool_kind type.bool is = refl
bool_kind k is = absurd (false≢true is)

-- a type of no fixed size is not bool
pub unsized_bool : (k : Kind) → is_some (element_size k) ≡ false → is_bool k ≡ false
unsized_bool type.bool not = absurd (false≢true (sym not))
unsized_bool k not = refl

-- ---- what is packed

pub ceil_len : (n : ℕ) → div_ceil n 8 ≡ packed_len n
ceil_len n = omega arith

-- the flags of a chunk
pub chunk_small : (q : ℕ) (b : List ℕ) → All (λ x. x < 2) b → (i : ℕ) (d : List ℕ) → i < q → All (λ x. x < 2) (get_or (first_chunks 8 q b) i d)
chunk_small zero b small i d lt = absurd (omega arith)
chunk_small (suc q) b small zero d lt = λ k e within.
    let len = length-take 8 b in
    subst (λ x. x < 2) (sym (get_or-take 8 b k e (omega arith))) (small k e (omega arith))
chunk_small (suc q) b small (suc i) d lt =
    chunk_small q (drop 8 b) (λ k e within. subst (λ x. x < 2) (sym (get_or-drop 8 b k e)) (small (8 + k) e (omega (arith, length-drop 8 b)))) i d (omega arith)

pub rest_small : (n : ℕ) (b : List ℕ) → All (λ x. x < 2) b → All (λ x. x < 2) (drop n b)
rest_small n b small = λ k e within. subst (λ x. x < 2) (sym (get_or-drop n b k e)) (small (n + k) e (omega (arith, length-drop n b)))

-- flags that fill their bytes
pub packed_whole : (b : List ℕ) → length (drop (length b / 8 * 8) b) ≡ 0 → packed b ≡ map packed_byte (first_chunks 8 (length b / 8) b)
packed_whole b none_left =
    let left = length-drop (length b / 8 * 8) b in
    let same : packed_len (length b) ≡ length b / 8 = omega arith in
    ap (λ m. map packed_byte (pieces 8 m b)) same ∙ ap (map packed_byte) (sym (chunks-pieces 8 (length b / 8) b (omega arith)))

map_push : (f : List ℕ → ℕ) (xs : List (List ℕ)) (x : List ℕ) → map f (xs ++ x ∷ []) ≡ map f xs ++ f x ∷ []
map_push f [] x = refl
map_push f (y ∷ xs) x = ap (λ l. f y ∷ l) (map_push f xs x)

-- flags that are left over have a byte of their own
pub packed_rest : (b : List ℕ) → 0 < length (drop (length b / 8 * 8) b)
    → packed b ≡ map packed_byte (first_chunks 8 (length b / 8) b) ++ packed_byte (drop (length b / 8 * 8) b) ∷ []
packed_rest b some_left =
    let q = length b / 8 in
    let rest = drop (q * 8) b in
    let left = length-drop (q * 8) b in
    let same : packed_len (length b) ≡ q + 1 = omega arith in
    let last : slice_range b (q * 8) (q * 8 + 8) ≡ rest = take_all (q * 8 + 8 - q * 8) rest (omega arith) in
    ap (λ m. map packed_byte (pieces 8 m b)) same
    ∙ ap (map packed_byte) (pieces_more 8 q b)
    ∙ map_push packed_byte (pieces 8 q b) (slice_range b (q * 8) (q * 8 + 8))
    ∙ ap (λ l. map packed_byte l ++ packed_byte (slice_range b (q * 8) (q * 8 + 8)) ∷ []) (sym (chunks-pieces 8 q b (omega arith)))
    ∙ ap (λ l. map packed_byte (first_chunks 8 q b) ++ packed_byte l ∷ []) last

-- ---- data of bools

module _ (b : List ℕ) (there : IsSome (cells type.bool (fixed b))) where
  has : HasCells type.bool (fixed b) (length b)
  has =
      let n = whole_cells type.bool 1 b refl (omega arith) there in
      let len = length-fixed type.bool 1 refl b (length b / 1) n in
      let same : length b / 1 ≡ length b = omega arith in
      subst (λ m. HasCells type.bool (fixed b) m) same n

  pub bools_small : All (λ x. x < 2) b
  bools_small = λ i d lt.
      let held = (HasCells-fixed type.bool 1 refl b (length b) (omega arith) (omega arith)).1 has in
      ltb-true (get_or b i d) 2 (AllPass-from_list_all _ b held i d lt)

  flags_again : map flag_of (map flag_cell b) ≡ b
  flags_again = map-map flag_of flag_cell b ∙ map_same (λ x. x) b (λ i d lt. refl)

  pub encoding_of-bools : encoding_of packbits_meaning type.bool (fixed b) ≡ Some (packed b)
  encoding_of-bools =
      ap (option_and_then (λ cs. packbits_meaning.encoded type.bool cs)) (cells-of type.bool 1 refl b (length b) (omega arith) has)
      ∙ ap (λ ps. Some (packed (map flag_of (map bytes ps)))) (pieces-one b)
      ∙ ap (λ l. Some (packed (map flag_of l))) (map-map bytes (λ x. x ∷ []) b)
      ∙ ap (λ l. Some (packed l)) flags_again

-- the bits of bytes that decode
pub decoded-bools : (n : ℕ) (b flags : List ℕ) → length b ≡ packed_len n → are_zero (drop n (bits b)) ≡ true → flags ≡ take n (bits b)
    → (cells type.bool (fixed flags) ≡ packbits_meaning.decoded type.bool n b) × IsSome (cells type.bool (fixed flags))
decoded-bools n b flags len padded is =
    let count : length flags ≡ n = ap length is ∙ length-flags n b len in
    let held : may_hold type.bool flags ≡ true = list_all-from_AllPass _ flags (λ i d lt.
    lt-ltb (get_or flags i d) 2 (subst (λ l. i < length l → get_or l i d < 2) (sym is) (flags-small n b i d) lt)) in
    let made : cells type.bool (fixed flags) ≡ Some (map flag_cell (take n (bits b))) =
    cells-held type.bool 1 refl flags (length flags) (omega arith) (omega arith) held
    ∙ ap (λ ps. Some (map bytes ps)) (pieces-one flags)
    ∙ ap Some (map-map bytes (λ x. x ∷ []) flags)
    ∙ ap (λ l. Some (map flag_cell l)) is in (
      made
          ∙ sym (ap (λ x. cond x (Some (map flag_cell (take n (bits b)))) None) (and_from (eqb (length b) (packed_len n)) (are_zero (drop n (bits b))) (eq-eqb (length b) (packed_len n) len) padded)),
      ap is_some made,
    )

-- bytes that do not decode
pub unpadded : (k : Kind) (n : ℕ) (b : List ℕ) → are_zero (drop n (bits b)) ≡ false → packbits_meaning.decoded k n b ≡ None
unpadded k n b not = go (is_bool k && eqb (length b) (packed_len n))
  where
    go : (x : Bool) → cond (x && are_zero (drop n (bits b))) (Some (map flag_cell (take n (bits b)))) None ≡ None
    go true = ap (λ y. cond y (Some (map flag_cell (take n (bits b)))) None) not
    go false = refl

pub other_len : (k : Kind) (n : ℕ) (b : List ℕ) → (length b ≡ packed_len n → ⊥) → packbits_meaning.decoded k n b ≡ None
other_len k n b differs = go (is_bool k) (eqb (length b) (packed_len n)) refl
  where
    go : (x y : Bool) → eqb (length b) (packed_len n) ≡ y → cond (x && y && are_zero (drop n (bits b))) (Some (map flag_cell (take n (bits b)))) None ≡ None
    go x true same = absurd (differs (eqb-true (length b) (packed_len n) same))
    go true false same = refl
    go false false same = refl

-- ---- what the code holds

pub data_bools : (k : Kind) (d : ArrayData) (b : List ℕ) → is_bool k ≡ true → d ≡ fixed b → IsSome (cells k d) → IsSome (cells type.bool (fixed b))
data_bools k d b bool is there = subst (λ u. IsSome (cells u (fixed b))) (bool_kind k bool) (subst (λ x. IsSome (cells k x)) is there)

pub encoding_of-packed : (k : Kind) (d : ArrayData) (b made : List ℕ) → is_bool k ≡ true → d ≡ fixed b → IsSome (cells k d) → made ≡ packed b → encoding_of packbits_meaning k d ≡ Some made
encoding_of-packed k d b made bool is there same =
    ap (encoding_of packbits_meaning k) is
    ∙ ap (λ u. encoding_of packbits_meaning u (fixed b)) (bool_kind k bool)
    ∙ encoding_of-bools b (data_bools k d b bool is there)
    ∙ ap Some (sym same)

pub decoded-flags : (k : Kind) (n : ℕ) (b all flags padding : List ℕ) → is_bool k ≡ true → length b ≡ packed_len n → all ≡ bits b → flags ≡ take n all → padding ≡ drop n all → are_zero padding ≡ true
    → (cells k (fixed flags) ≡ packbits_meaning.decoded k n b) × IsSome (cells k (fixed flags))
decoded-flags k n b all flags padding bool len is front back padded =
    let there = decoded-bools n b flags len (ap are_zero (sym (back ∙ ap (drop n) is)) ∙ padded) (front ∙ ap (take n) is) in
    let same = bool_kind k bool in (
      ap (λ u. cells u (fixed flags)) same ∙ there.0 ∙ sym (ap (λ u. packbits_meaning.decoded u n b) same),
      subst (λ u. IsSome (cells u (fixed flags))) (sym same) there.1,
    )

pub decoded-unpadded : (k : Kind) (n : ℕ) (b all padding : List ℕ) → all ≡ bits b → padding ≡ drop n all → are_zero padding ≡ false → packbits_meaning.decoded k n b ≡ None
decoded-unpadded k n b all padding is back not = unpadded k n b (ap are_zero (sym (back ∙ ap (drop n) is)) ∙ not)

pub not_zero : (n : ℕ) → eqb n 0 ≡ false → 0 < n
not_zero zero is = absurd (false≢true (sym is))
not_zero (suc n) is = omega arith
