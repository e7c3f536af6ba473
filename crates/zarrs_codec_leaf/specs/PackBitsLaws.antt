-- The law of the codec `packbits`.
use Rattle.std.proofs.Common.{◌≡◌, ℕ, zero, suc, ◌+◌, ◌-◌, ◌*◌, ◌/◌, ◌%◌, ◌<◌, ◌≤◌, ◌^◌, Bool, true, false, cond, eqb}
use Rattle.std.proofs.Common.{◌&&◌, List, [], ◌∷◌, length, map, take, drop, get_or, None, Some, refl, sym, ap}
use Rattle.std.proofs.Common.{◌∙◌, subst, arith}
use Rattle.std.proofs.Math.Dec.{ltb}
use Rattle.std.specs.Prelude.{slice_index, slice_range}
use Rattle.std.specs.Int.{bit_at}
use Rattle.std.proofs.lemmas.Bool.{eqb-true, eq-eqb, and_parts, and_from, ltb-true, ltb-false, lt-ltb, false≢true}
use Rattle.std.proofs.lemmas.Nat.Bits.{bit_at-zero, bit_at-lt, bit_at_lowest}
use Rattle.std.proofs.lemmas.List.{length-map, get_or-map, get_or-take, get_or-drop, get_or_past, get_or_append_left}
use Rattle.std.proofs.lemmas.List.{length-drop, length-take, length-take-le, ext_get_or}
use Rattle.std.proofs.Math.Seq.{get_or-append-add}
use Rattle.std.proofs.lemmas.List.FromFn.{get_or-map-range_with_len}
use Rattle.std.proofs.lemmas.List.Sums.{AllPass-from_list_all, list_all-from_AllPass}
use Rattle.std.proofs.lemmas.Simd.{map-map}
use Rattle.std.proofs.Math.Nat.{pow-succ', div-div-eq-div-mul, add-mul-div_left, add-mul-mod_self_left, div-add-mod'}
use Rattle.zarrs_data_type.specs.Kind.{Kind}
use Rattle.zarrs_data_type.specs.Kind as type
use Rattle.zarrs_data_type.specs.Cell.{Cell, bytes, none, some, is_value, are_values}
use Rattle.zarrs_subset.specs.Pieces.{pieces, piece_at}
use Rattle.zarrs_data_type_bytes.proofs.Pieces.{length-pieces, length-flat_map_same}
use Rattle.zarrs_codec_leaf.specs.PackBits.{is_bool, packed_byte, packed_len, packed, byte_bits, bits, flag_of, flag_cell, are_zero, packbits_meaning}
use Rattle.zarrs_codec_leaf.specs.Chosen.{some_is, only_parts, map_same}
use Rattle.zarrs_codec_leaf.specs.Leaf.{IsLawfulLeaf}

-- the bits of a packed byte are its flags, and 0 behind them
bit_at-packed : (fs : List ℕ) (i : ℕ) → ((k d : ℕ) → k < length fs → get_or fs k d < 2) → bit_at (packed_byte fs) i ≡ slice_index fs i
bit_at-packed [] i each = bit_at-zero i
bit_at-packed (f ∷ fs) zero each =
    let small = each 0 0 (omega arith) in
    bit_at_lowest (f + 2 * packed_byte fs) ∙ add-mul-mod_self_left f 2 (packed_byte fs) ∙ omega arith
bit_at-packed (f ∷ fs) (suc i) each =
    let small : f < 2 = each 0 0 (omega arith) in
    let x = packed_byte fs in
    let none_left : f / 2 + x ≡ x = omega arith in
    ap (λ p. (f + 2 * x) / p % 2) (pow-succ' 2 i)
    ∙ ap (λ q. q % 2) (sym (div-div-eq-div-mul (f + 2 * x) 2 (2 ^ i)) ∙ ap (λ y. y / 2 ^ i) (add-mul-div_left f x {y = 2} (omega arith) ∙ none_left))
    ∙ bit_at-packed fs i (λ k d lt. each (suc k) d (omega arith))

-- an element of a piece
piece_element : (b : List ℕ) (j i : ℕ) → i < 8 → slice_index (slice_range b (j * 8) (j * 8 + 8)) i ≡ slice_index b (j * 8 + i)
piece_element b j i lt =
    get_or-take (j * 8 + 8 - j * 8) (drop (j * 8) b) i 0 (omega arith) ∙ get_or-drop (j * 8) b i 0

pub length-bits : (b : List ℕ) → length (bits b) ≡ length b * 8
length-bits b = length-flat_map_same byte_bits 8 b (λ k d lt. refl)

bit_of : (x i d : ℕ) → i < 8 → get_or (byte_bits x) i d ≡ bit_at x i
bit_of x i d lt = get_or-map-range_with_len (λ j. bit_at x j) 0 8 i i d lt (omega arith)

-- those of the first byte, and behind it
by_byte : (x : ℕ) (b : List ℕ) (k d : ℕ) → k < length (x ∷ b) * 8 → (here : Bool) → ltb k 8 ≡ here
    → ((j e : ℕ) → j < length b * 8 → get_or (bits b) j e ≡ bit_at (slice_index b (j / 8)) (j % 8))
    → get_or (bits (x ∷ b)) k d ≡ bit_at (slice_index (x ∷ b) (k / 8)) (k % 8)
by_byte x b k d lt true is behind =
    let below : k < 8 = ltb-true k 8 is in
    let first : k / 8 ≡ 0 = omega arith in
    let same : k % 8 ≡ k = omega arith in
    get_or_append_left (byte_bits x) (bits b) d k below
    ∙ bit_of x k d below
    ∙ sym (ap (λ j. bit_at (slice_index (x ∷ b) j) (k % 8)) first ∙ ap (bit_at x) same)
by_byte x b k d lt false is behind =
    let above : 8 ≤ k = ltb-false k 8 is in
    let j : ℕ = k - 8 in
    let split : k ≡ 8 + j = omega arith in
    let next : k / 8 ≡ suc (j / 8) = omega arith in
    let same : k % 8 ≡ j % 8 = omega arith in
    ap (λ m. get_or (bits (x ∷ b)) m d) split
    ∙ get_or-append-add (byte_bits x) (bits b) j d
    ∙ behind j d (omega arith)
    ∙ sym (ap (λ m. bit_at (slice_index (x ∷ b) m) (k % 8)) next ∙ ap (λ m. bit_at (slice_index b (j / 8)) m) same)

-- the bits by their places
bits-at : (b : List ℕ) (k d : ℕ) → k < length b * 8 → get_or (bits b) k d ≡ bit_at (slice_index b (k / 8)) (k % 8)
bits-at [] k d lt = absurd (omega arith)
bits-at (x ∷ b) k d lt = by_byte x b k d lt (ltb k 8) refl (λ j e below. bits-at b j e below)

pub length-packed : (flags : List ℕ) → length (packed flags) ≡ packed_len (length flags)
length-packed flags = length-map (pieces 8 (packed_len (length flags)) flags) packed_byte ∙ length-pieces 8 (packed_len (length flags)) flags

-- the bits of packed flags are the flags, and 0 behind them
module _ (flags : List ℕ) (each : (k d : ℕ) → k < length flags → get_or flags k d < 2) where
  bits-packed_at : (k d : ℕ) → k < packed_len (length flags) * 8 → get_or (bits (packed flags)) k d ≡ slice_index flags k
  bits-packed_at k d lt =
      let m = packed_len (length flags) in
      let j : ℕ = k / 8 in
      let piece = slice_range flags (j * 8) (j * 8 + 8) in
      let inside : j < m = omega arith in
      let split : j * 8 + k % 8 ≡ k = div-add-mod' k 8 in
      let count = length-pieces 8 m flags in
      let len = length-packed flags in
      bits-at (packed flags) k d (omega arith)
      ∙ ap (λ x. bit_at x (k % 8))
      (get_or-map packed_byte (pieces 8 m flags) j [] 0 (omega arith)
      ∙ ap packed_byte (get_or-map-range_with_len (piece_at 8 flags) 0 m j j [] inside (omega arith)))
      ∙ bit_at-packed piece (k % 8) (λ i e within.
      let width = length-take (j * 8 + 8 - j * 8) (drop (j * 8) flags) in
      let left = length-drop (j * 8) flags in
      let reach : i < 8 = omega arith in
      let same : get_or piece i e ≡ get_or flags (j * 8 + i) e = get_or-take (j * 8 + 8 - j * 8) (drop (j * 8) flags) i e (omega arith)
      ∙ get_or-drop (j * 8) flags i e in
      subst (λ x. x < 2) (sym same) (each (j * 8 + i) e (omega arith)))
      ∙ piece_element flags j (k % 8) (omega arith)
      ∙ ap (slice_index flags) split

  room : length flags ≤ length (bits (packed flags))
  room = omega (arith, length-bits (packed flags), length-packed flags)

  pub flags-read : take (length flags) (bits (packed flags)) ≡ flags
  flags-read =
      let n = length flags in
      let b = bits (packed flags) in
      let len = length-take-le n b room in
      ext_get_or 0 (take n b) flags len (λ k lt.
      get_or-take n b k 0 (omega arith) ∙ bits-packed_at k 0 (omega arith))

  pub padding-read : are_zero (drop (length flags) (bits (packed flags))) ≡ true
  padding-read =
      let n = length flags in
      let b = bits (packed flags) in
      let all = length-bits (packed flags) in
      let count = length-packed flags in
      list_all-from_AllPass (λ bit. eqb bit 0) (drop n b) (λ i d lt.
      let left = length-drop n b in
      eq-eqb (get_or (drop n b) i d) 0 (get_or-drop n b i d ∙ bits-packed_at (n + i) d (omega arith) ∙ get_or_past flags (n + i) 0 (omega arith)))

-- the bits are flags
pub bits-small : (b : List ℕ) (k d : ℕ) → k < length (bits b) → get_or (bits b) k d < 2
bits-small b k d lt =
    subst (λ x. x < 2) (sym (bits-at b k d (omega (arith, length-bits b)))) (bit_at-lt (slice_index b (k / 8)) (k % 8))

-- the values of bool are flags
bool_cell : (k : Kind) (c : Cell) → is_bool k ≡ true → is_value k c ≡ true → (flag_cell (flag_of c) ≡ c) × (flag_of c < 2)
bool_cell type.bool (bytes []) is v = absurd (false≢true v)
bool_cell type.bool (bytes (x ∷ [])) is v = (refl, ltb-true x 2 v)
bool_cell type.bool (bytes (x ∷ (y ∷ b))) is v =
    absurd (omega (arith, eqb-true (suc (suc (length b))) 1 (and_parts (eqb (suc (suc (length b))) 1) (ltb x 2) v).0))
bool_cell type.bool none is v = absurd (false≢true v)
bool_cell type.bool (some c) is v = absurd (false≢true v)
bool_cell k c is v = absurd (false≢true is)

pub flag_values : (k : Kind) (flags : List ℕ) → is_bool k ≡ true → ((i d : ℕ) → i < length flags → get_or flags i d < 2)
    → are_values k (map flag_cell flags) ≡ true
flag_values k [] is each = refl
flag_values type.bool (f ∷ flags) is each =
    and_from (is_value type.bool (flag_cell f)) (are_values type.bool (map flag_cell flags))
    (lt-ltb f 2 (each 0 0 (omega arith)))
    (flag_values type.bool flags is (λ i d lt. each (suc i) d (omega arith)))
flag_values k (f ∷ flags) is each = absurd (false≢true is)

again : (k : Kind) (cs : List Cell) (b : List ℕ) → are_values k cs ≡ true → packbits_meaning.encoded k cs ≡ Some b
    → packbits_meaning.decoded k (length cs) b ≡ Some cs
again k cs b values made =
    let p = only_parts (is_bool k) (Some (packed (map flag_of cs))) b made in
    let flags = map flag_of cs in
    let n = length cs in
    let x = packed flags in
    let len = length-map cs flag_of in
    let all = AllPass-from_list_all (λ c. is_value k c) cs values in
    let each : (i d : ℕ) → i < length flags → get_or flags i d < 2 =
    λ i d lt. subst (λ y. y < 2) (sym (get_or-map flag_of cs i none d (omega arith))) (bool_cell k (get_or cs i none) p.0 (all i none (omega arith))).1 in
    let read : take n (bits x) ≡ flags = ap (λ m. take m (bits x)) (sym len) ∙ flags-read flags each in
    let padded : are_zero (drop n (bits x)) ≡ true = ap (λ m. are_zero (drop m (bits x))) (sym len) ∙ padding-read flags each in
    let sized : eqb (length x) (packed_len n) ≡ true = eq-eqb (length x) (packed_len n) (length-packed flags ∙ ap packed_len len) in
    ap (packbits_meaning.decoded k n) (sym (some_is p.1))
    ∙ ap (λ y. cond y (Some (map flag_cell (take n (bits x)))) None)
    (and_from (is_bool k && eqb (length x) (packed_len n)) (are_zero (drop n (bits x))) (and_from (is_bool k) (eqb (length x) (packed_len n)) p.0 sized) padded)
    ∙ ap (λ y. Some (map flag_cell y)) read
    ∙ ap Some (map-map flag_cell flag_of cs ∙ map_same (λ c. flag_cell (flag_of c)) cs (λ i d lt. (bool_cell k (get_or cs i d) p.0 (all i d lt)).0))

-- what decodes
pub decoded_flags : (k : Kind) (n : ℕ) (b : List ℕ) (cs : List Cell) → packbits_meaning.decoded k n b ≡ Some cs
    → (is_bool k ≡ true) × (length b ≡ packed_len n) × (are_zero (drop n (bits b)) ≡ true) × (cs ≡ map flag_cell (take n (bits b)))
decoded_flags k n b cs made =
    let p = only_parts (is_bool k && eqb (length b) (packed_len n) && are_zero (drop n (bits b))) (Some (map flag_cell (take n (bits b)))) cs made in
    let q = and_parts (is_bool k && eqb (length b) (packed_len n)) (are_zero (drop n (bits b))) p.0 in
    let r = and_parts (is_bool k) (eqb (length b) (packed_len n)) q.0 in
    (r.0, eqb-true (length b) (packed_len n) r.1, q.1, sym (some_is p.1))

pub length-flags : (n : ℕ) (b : List ℕ) → length b ≡ packed_len n → length (take n (bits b)) ≡ n
length-flags n b len = length-take-le n (bits b) (omega (arith, length-bits b))

pub flags-small : (n : ℕ) (b : List ℕ) (i d : ℕ) → i < length (take n (bits b)) → get_or (take n (bits b)) i d < 2
flags-small n b i d lt =
    let len = length-take n (bits b) in
    subst (λ x. x < 2) (sym (get_or-take n (bits b) i d (omega arith))) (bits-small b i d (omega arith))

parts : (k : Kind) (n : ℕ) (b : List ℕ) (cs : List Cell) → packbits_meaning.decoded k n b ≡ Some cs → (length cs ≡ n) × (are_values k cs ≡ true)
parts k n b cs made =
    let p = decoded_flags k n b cs made in
    let flags = take n (bits b) in (
      ap length p.3 ∙ length-map flags flag_cell ∙ length-flags n b p.1,
      ap (are_values k) p.3 ∙ flag_values k flags p.0 (flags-small n b),
    )

pub packbits-lawful : IsLawfulLeaf packbits_meaning
packbits-lawful = record {
  round_trip = again;
  decoded_len = λ k n b cs made. (parts k n b cs made).0;
  decoded_values = λ k n b cs made. (parts k n b cs made).1;
  untaken = λ k cs not. ap (λ x. cond x (Some (packed (map flag_of cs))) None) not;
  untaken_decoded = λ k n b not.
      ap (λ x. cond (x && eqb (length b) (packed_len n) && are_zero (drop n (bits b))) (Some (map flag_cell (take n (bits b)))) None) not;
}
