-- What is written for a fill value is read as it.
use Rattle.std.proofs.Common.{◌≡◌, ℕ, zero, suc, ◌+◌, ◌^◌, ◌<◌, ◌≤◌, Bool, true, false, cond, eqb, ltb, leb, List, [], ◌∷◌, length, get_or}
use Rattle.std.proofs.Common.{Option, Some, None, refl, sym, ap, ◌∙◌, arith, ◌-◌, ◌++◌, take}
use Rattle.std.specs.Prelude.{ℤ, pos, negsuc, int_le, nat_lt, IsSome, option_map, option_and_then, ◌&&◌, FitsSigned}
use Rattle.std.specs.Int.{Width, w8, w16, w32, w64, cast_signed, cast_unsigned, to_le_bytes, from_le_bytes, from_bool}
use mir.Val.{hbits}
use Rattle.std.proofs.Math.Facts.{sfits_to_z}
use Rattle.std.proofs.lemmas.Bool.{and_parts, eqb-true, ltb-true, lt-ltb, le-leb}
use Rattle.std.proofs.lemmas.Int.{of_z-to_z}
use Rattle.std.proofs.lemmas.Nat.{le_bytes_2, le_bytes_4, le_bytes_8}
use Rattle.std.specs.List.{list_all}
use Rattle.std.specs.Str.{bytes_eq}
use Rattle.std.proofs.lemmas.List.{take_more}
use Rattle.std.proofs.Math.Seq.{take-length}
use Rattle.std.proofs.lemmas.List.Folds.{list_all-append}
use Rattle.std.proofs.lemmas.Slice.Eq.{bytes_eq-Decides}
use Rattle.serde_json.specs.Data.{null, number, unsigned, array, item, no_items}
use Rattle.serde_json.specs.Find.{as_i64, of_integer}
use Rattle.zarrs_data_type_kinds.specs.Kind.{Kind, inner_of}
use Rattle.zarrs_data_type_kinds.specs.Kind as type
use Rattle.zarrs_metadata_parts.specs.Lists.{numbers_data}
use Rattle.zarrs_metadata_parts.proofs.ListLemmas.{numbers_of-numbers_data}
use Rattle.zarrs_data_type_kinds.specs.Cell.{Cell, bytes, none, some, is_element, inner_fill, fill_cell}
use Rattle.zarrs_data_type_kinds.specs.FillMetadata.{unsigned_said, signed_said, bytes_said, fill_said, fill_written}

-- ---- numbers

unsigned_back : (high n : ℕ) → n ≤ high → unsigned_said high (number (unsigned n)) ≡ Some n
unsigned_back high n le = ap (λ (t : Bool). cond t (Some n) None) (le-leb n high le)

integer_back : (z : ℤ) → FitsSigned w64 z → as_i64 (of_integer z) ≡ Some z
integer_back (pos n) fits = ap (λ (t : Bool). cond t (Some (pos n)) None) (lt-ltb n (2 ^ 63) fits.sfits)
integer_back (negsuc n) fits = refl

-- a number of a signed type, from `- high - 1` to `high`
signed_back : (w : Width) (high : ℕ) (z : ℤ) → 2 ^ hbits w ≡ high + 1 → high < 2 ^ 63 → FitsSigned w z → signed_said (negsuc high) (pos high) (number (of_integer z)) ≡ Some z
signed_back w high (pos n) top small fits =
    let lt : n < 2 ^ hbits w = fits.sfits in
    let first : ltb n (2 ^ 63) ≡ true = lt-ltb n (2 ^ 63) (omega arith) in
    let last : leb n high ≡ true = le-leb n high (omega arith) in
    ap (λ (t : Bool). option_and_then (λ (z : ℤ). cond (int_le (negsuc high) z && int_le z (pos high)) (Some z) None) (cond t (Some (pos n)) None)) first
    ∙ ap (λ (t : Bool). cond t (Some (pos n)) None) last
signed_back w high (negsuc n) top small fits =
    let lt : n < 2 ^ hbits w = fits.sfits in
    let last : leb n high ≡ true = le-leb n high (omega arith) in
    ap (λ (t : Bool). cond (t && true) (Some (negsuc n)) None) last

bit_back : (x : ℕ) → x < 2 → from_bool (eqb x 1) ≡ x
bit_back zero lt = refl
bit_back (suc zero) lt = refl
bit_back (suc (suc n)) lt = absurd (omega arith)

-- ---- bytes

one_item : (b : List ℕ) → length b ≡ 1 → get_or b 0 0 ∷ [] ≡ b
one_item [] is = absurd (omega arith)
one_item (x ∷ []) is = refl
one_item (x ∷ y ∷ ys) is = absurd (omega arith)

module _ (b : List ℕ) (small : (i : ℕ) → get_or b i 0 < 256) where
  below_1 : get_or b 0 0 < 2 ^ 8
  below_1 = small 0

  below_2 : from_le_bytes w16 b < 2 ^ 16
  below_2 = let b0 = small 0 in let b1 = small 1 in omega arith

  below_4 : from_le_bytes w32 b < 2 ^ 32
  below_4 = let b0 = small 0 in let b1 = small 1 in let b2 = small 2 in let b3 = small 3 in omega arith

  below_8 : from_le_bytes w64 b < 2 ^ 64
  below_8 =
      let b0 = small 0 in let b1 = small 1 in let b2 = small 2 in let b3 = small 3 in
      let b4 = small 4 in let b5 = small 5 in let b6 = small 6 in let b7 = small 7 in omega arith

-- ---- lists of bytes

small_at : (b : List ℕ) → list_all (λ x. nat_lt x 256) b ≡ true → (i : ℕ) → get_or b i 0 < 256
small_at [] small i = omega arith
small_at (x ∷ xs) small zero = ltb-true x 256 (and_parts (ltb x 256) (list_all (λ y. nat_lt y 256) xs) small).0
small_at (x ∷ xs) small (suc i) = small_at xs (and_parts (ltb x 256) (list_all (λ y. nat_lt y 256) xs) small).1 i

pub all_small : (b : List ℕ) → ((i : ℕ) → get_or b i 0 < 256) → list_all (λ x. nat_lt x 256) b ≡ true
all_small [] small = refl
all_small (x ∷ xs) small = rw (lt-ltb x 256 (small 0)) (all_small xs (λ i. small (suc i)))

bytes_back : (b : List ℕ) → ((i : ℕ) → get_or b i 0 < 256) → bytes_said (numbers_data b) ≡ Some b
bytes_back b small =
    ap (option_and_then (λ (x : List ℕ). cond (list_all (λ y. nat_lt y 256) x) (Some x) None)) (numbers_of-numbers_data b)
    ∙ ap (λ (t : Bool). cond t (Some b) None) (all_small b small)

-- the bytes before a last byte 1, and that byte
last_one : (f front : List ℕ) → inner_fill f ≡ Some front → f ≡ front ++ 1 ∷ []
last_one f front is = go (ltb 0 (length f) && eqb (get_or f (length f - 1) 0) 1) refl is
  where
    go : (t : Bool) → (ltb 0 (length f) && eqb (get_or f (length f - 1) 0) 1) ≡ t → cond t (Some (take (length f - 1) f)) None ≡ Some front → f ≡ front ++ 1 ∷ []
    go true at made =
        let parts = and_parts (ltb 0 (length f)) (eqb (get_or f (length f - 1) 0) 1) at in
        let more : 0 < length f = ltb-true 0 (length f) parts.0 in
        let last : get_or f (length f - 1) 0 ≡ 1 = eqb-true (get_or f (length f - 1) 0) 1 parts.1 in
        let same : take (length f - 1) f ≡ front = cc in
        let count : length f - 1 + 1 ≡ length f = omega arith in
        sym (take-length f) ∙ ap (λ (n : ℕ). take n f) (sym count) ∙ take_more f (length f - 1) 0 (omega arith)
        ∙ ap (λ (x : ℕ). take (length f - 1) f ++ x ∷ []) last ∙ ap (λ (p : List ℕ). p ++ 1 ∷ []) same
    go false at made = cc

-- ---- fill values

kept : (t : Bool) (b : List ℕ) → IsSome (cond t (Some (bytes b)) None) → t ≡ true
kept true b there = refl
kept false b there = let nothing : IsSome {T = Cell} None = there in cc

-- the bytes of a fill value of a type that is not optional are those of an element
element_of : (k : Kind) (b : List ℕ) → inner_of k ≡ None → IsSome (fill_cell k b) → is_element k b ≡ true
element_of type.bool b plain there = kept (is_element type.bool b) b there
element_of type.int8 b plain there = kept (is_element type.int8 b) b there
element_of type.int16 b plain there = kept (is_element type.int16 b) b there
element_of type.int32 b plain there = kept (is_element type.int32 b) b there
element_of type.int64 b plain there = kept (is_element type.int64 b) b there
element_of type.uint8 b plain there = kept (is_element type.uint8 b) b there
element_of type.uint16 b plain there = kept (is_element type.uint16 b) b there
element_of type.uint32 b plain there = kept (is_element type.uint32 b) b there
element_of type.uint64 b plain there = kept (is_element type.uint64 b) b there
element_of (type.raw size) b plain there = kept (is_element (type.raw size) b) b there
element_of type.string b plain there = kept (is_element type.string b) b there
element_of type.bytes b plain there = kept (is_element type.bytes b) b there
element_of (type.optional u) b plain there = cc

element_back : (k : Kind) (b : List ℕ) → is_element k b ≡ true → ((i : ℕ) → get_or b i 0 < 256) → fill_said k (fill_written k b) ≡ Some b
element_back type.bool b is small =
    let parts = and_parts (eqb (length b) 1) (ltb (get_or b 0 0) 2) is in
    ap (λ (x : ℕ). Some (x ∷ [])) (bit_back (get_or b 0 0) (ltb-true _ _ parts.1)) ∙ ap Some (one_item b (eqb-true _ _ parts.0))
element_back type.int8 b is small =
    let fits : get_or b 0 0 < 2 ^ 8 = below_1 b small in
    ap (option_map (λ (z : ℤ). cast_unsigned w8 z ∷ [])) (signed_back w8 127 (cast_signed w8 (get_or b 0 0)) refl (omega arith) (sfits_to_z {w = w8} {n = get_or b 0 0} (record { fits = fits })))
    ∙ ap (λ (n : ℕ). Some (n ∷ [])) (of_z-to_z w8 (get_or b 0 0) fits) ∙ ap Some (one_item b (eqb-true _ _ is))
element_back type.int16 b is small =
    let n = from_le_bytes w16 b in
    let fits : from_le_bytes w16 b < 2 ^ 16 = below_2 b small in
    ap (option_map (λ (z : ℤ). to_le_bytes w16 (cast_unsigned w16 z))) (signed_back w16 32767 (cast_signed w16 n) refl (omega arith) (sfits_to_z {w = w16} {n = n} (record { fits = fits })))
    ∙ ap (λ (m : ℕ). Some (to_le_bytes w16 m)) (of_z-to_z w16 n fits) ∙ ap Some (le_bytes_2 b n (eqb-true _ _ is) small refl)
element_back type.int32 b is small =
    let n = from_le_bytes w32 b in
    let fits : from_le_bytes w32 b < 2 ^ 32 = below_4 b small in
    ap (option_map (λ (z : ℤ). to_le_bytes w32 (cast_unsigned w32 z))) (signed_back w32 2147483647 (cast_signed w32 n) refl (omega arith) (sfits_to_z {w = w32} {n = n} (record { fits = fits })))
    ∙ ap (λ (m : ℕ). Some (to_le_bytes w32 m)) (of_z-to_z w32 n fits) ∙ ap Some (le_bytes_4 b n (eqb-true _ _ is) small refl)
element_back type.int64 b is small =
    let n = from_le_bytes w64 b in
    let fits : from_le_bytes w64 b < 2 ^ 64 = below_8 b small in
    ap (option_map (λ (z : ℤ). to_le_bytes w64 (cast_unsigned w64 z))) (integer_back (cast_signed w64 n) (sfits_to_z {w = w64} {n = n} (record { fits = fits })))
    ∙ ap (λ (m : ℕ). Some (to_le_bytes w64 m)) (of_z-to_z w64 n fits) ∙ ap Some (le_bytes_8 b n (eqb-true _ _ is) small refl)
element_back type.uint8 b is small =
    let lt : get_or b 0 0 < 256 = small 0 in
    ap (option_map (λ (m : ℕ). m ∷ [])) (unsigned_back 255 (get_or b 0 0) (omega arith)) ∙ ap Some (one_item b (eqb-true _ _ is))
element_back type.uint16 b is small =
    let n = from_le_bytes w16 b in
    let fits : from_le_bytes w16 b < 2 ^ 16 = below_2 b small in
    ap (option_map (λ (m : ℕ). to_le_bytes w16 m)) (unsigned_back 65535 n (omega arith)) ∙ ap Some (le_bytes_2 b n (eqb-true _ _ is) small refl)
element_back type.uint32 b is small =
    let n = from_le_bytes w32 b in
    let fits : from_le_bytes w32 b < 2 ^ 32 = below_4 b small in
    ap (option_map (λ (m : ℕ). to_le_bytes w32 m)) (unsigned_back 4294967295 n (omega arith)) ∙ ap Some (le_bytes_4 b n (eqb-true _ _ is) small refl)
element_back type.uint64 b is small =
    let n = from_le_bytes w64 b in
    ap Some (le_bytes_8 b n (eqb-true _ _ is) small refl)
element_back (type.raw size) b is small =
    ap (option_and_then (λ (x : List ℕ). cond (eqb (length x) size) (Some x) None)) (bytes_back b small) ∙ ap (λ (t : Bool). cond t (Some b) None) is
element_back type.string b is small = refl
element_back type.bytes b is small = bytes_back b small
element_back (type.optional u) b is small = cc

mapped : (o : Option Cell) → IsSome (option_map some o) → IsSome o
mapped None there = let nothing : IsSome {T = Cell} None = there in cc
mapped (Some c) there = refl

only_none : (f : List ℕ) (t : Bool) → bytes_eq f (0 ∷ []) ≡ t → IsSome (cond t (Some none) None) → 0 ∷ [] ≡ f
only_none f true is there = sym ((bytes_eq-Decides f (0 ∷ [])).0 is)
only_none f false is there = let nothing : IsSome {T = Cell} None = there in cc

-- what metadata says of the fill value that was written
pub fill_back : (k : Kind) (f : List ℕ) → IsSome (fill_cell k f) → list_all (λ x. nat_lt x 256) f ≡ true → fill_said k (fill_written k f) ≡ Some f
fill_back (type.optional u) f there small = go (inner_fill f) refl there (λ front at low. fill_back u front at low)
  where
    go : (o : Option (List ℕ)) → inner_fill f ≡ o → IsSome (elim o [ None ↦ cond (bytes_eq f (0 ∷ [])) (Some none) None | Some front ↦ option_map some (fill_cell u front) ])
        → ((front : List ℕ) → IsSome (fill_cell u front) → list_all (λ x. nat_lt x 256) front ≡ true → fill_said u (fill_written u front) ≡ Some front)
        → fill_said (type.optional u) (elim o [ None ↦ null | Some front ↦ array (item (fill_written u front) no_items) ]) ≡ Some f
    go None is at below = ap Some (only_none f (bytes_eq f (0 ∷ [])) refl at)
    go (Some front) is at below =
        let whole : f ≡ front ++ 1 ∷ [] = last_one f front is in
        let both : (list_all (λ x. nat_lt x 256) front && list_all (λ x. nat_lt x 256) (1 ∷ [])) ≡ true =
        sym (list_all-append (λ x. nat_lt x 256) front (1 ∷ [])) ∙ ap (list_all (λ x. nat_lt x 256)) (sym whole) ∙ small in
        let low = (and_parts (list_all (λ x. nat_lt x 256) front) (list_all (λ x. nat_lt x 256) (1 ∷ [])) both).0 in
        ap (option_map (λ (b : List ℕ). b ++ 1 ∷ [])) (below front (mapped (fill_cell u front) at) low) ∙ ap Some (sym whole)
fill_back k f there small = element_back k f (element_of k f refl there) (small_at f small)
