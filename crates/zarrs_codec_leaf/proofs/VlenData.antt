-- What the code of `zarrs.vlen` does with data.
use Rattle.std.proofs.Common.{◌≡◌, ℕ, ◌+◌, ◌*◌, ◌/◌, ◌<◌, ◌^◌, ◌↔◌, Bool, true, false, cond, eqb, ◌&&◌, List, ◌++◌, length, map, take, drop}
use Rattle.std.proofs.Common.{None, Some, Result, Ok, Err, refl, sym, ap, ◌∙◌, arith, append_assoc}
use Rattle.std.specs.Prelude.{IfOk, IsOk, nat_lt, nat_le, option_and_then}
use Rattle.std.specs.Result.{result_ok}
use Rattle.std.specs.List.{flat_map}
use Rattle.std.specs.Int.{w64, to_le_bytes, from_le_bytes}
use Rattle.std.specs.Simd.{first_chunks}
use Rattle.std.proofs.Math.Nat.{mul-div_cancel}
use Rattle.std.proofs.lemmas.Bool.{false≢true, lt-ltb, leb-true, and_parts, and_from}
use Rattle.std.proofs.lemmas.List.{length-drop, length-take-le}
use Rattle.zarrs_data_type.specs.Offsets.{AreOffsets, AreCuts, byte_strings, joined, last_offset, offsets_of}
use Rattle.zarrs_codec_leaf.specs.Chosen.{some_is, only_parts}
use Rattle.zarrs_codec_leaf.specs.Vlen.{are_cuts, cut, index_len, indexed, offsets_in, split_index, unindexed}
use Rattle.zarrs_codec_leaf.specs.VlenLaws.{cuts-from_test, test-from_cuts, length-offsets_of}

-- what is put together
pub indexed-as : (strings : List (List ℕ)) (offsets bytes made : List ℕ) (len : ℕ) → offsets ≡ offsets_of strings → bytes ≡ joined strings
    → len ≡ length offsets * 8 → len < 2 ^ 64 → length bytes < 2 ^ 64 → made ≡ (to_le_bytes w64 len ++ flat_map (to_le_bytes w64) offsets) ++ bytes
    → Some made ≡ indexed strings
indexed-as strings offsets bytes made len offsets_are bytes_are len_is few short is =
    let head = to_le_bytes w64 len in
    let size : len ≡ index_len (length strings) = omega (arith, ap length offsets_are, length-offsets_of strings) in
    let data_len = ap length bytes_are in
    let index : List ℕ → List ℕ = λ os. flat_map (to_le_bytes w64) os in
    let test = and_from (nat_lt (index_len (length strings)) (2 ^ 64)) (nat_lt (length (joined strings)) (2 ^ 64))
    (lt-ltb (index_len (length strings)) (2 ^ 64) (omega arith)) (lt-ltb (length (joined strings)) (2 ^ 64) (omega arith)) in
    ap Some
    (is
    ∙ append_assoc head (index offsets) bytes
    ∙ ap (λ os. head ++ (index os ++ bytes)) offsets_are
    ∙ ap (λ b. head ++ (index (offsets_of strings) ++ b)) bytes_are
    ∙ ap (λ m. to_le_bytes w64 m ++ (index (offsets_of strings) ++ joined strings)) size)
    ∙ sym (ap (λ x. cond x (Some (to_le_bytes w64 (index_len (length strings)) ++ (index (offsets_of strings) ++ joined strings))) None) test)

-- ---- what is cut

module _ (offsets bytes : List ℕ) (some : 0 < length offsets) where
  cut-some : AreCuts offsets bytes → Some (byte_strings offsets bytes) ≡ cut offsets bytes
  cut-some cuts = sym (ap (λ x. cond x (Some (byte_strings offsets bytes)) None) (test-from_cuts offsets bytes some cuts))

  pub cut-none : (AreCuts offsets bytes → ⊥) → None ≡ cut offsets bytes
  cut-none fails = go (are_cuts offsets bytes) refl
    where
      go : (x : Bool) → are_cuts offsets bytes ≡ x → None ≡ cut offsets bytes
      go true is = absurd (fails (cuts-from_test offsets bytes some is))
      go false is = sym (ap (λ x. cond x (Some (byte_strings offsets bytes)) None) is)

  pub cut-result : {E : Type 0} (held put : List ℕ) (r : Result (List (List ℕ)) E) → held ≡ offsets → put ≡ bytes → AreOffsets offsets
      → IfOk r (λ made. made ≡ byte_strings held put) → IsOk r ↔ (last_offset held ≡ length put) → result_ok r ≡ cut offsets bytes
  cut-result held put (Ok made) held_is put_is are is accepted =
      ap Some (is ∙ ap (λ os. byte_strings os put) held_is ∙ ap (byte_strings offsets) put_is)
      ∙ cut-some (record { are_offsets = are; covered = ap last_offset (sym held_is) ∙ accepted.0 refl ∙ ap length put_is })
  cut-result held put (Err e) held_is put_is are is accepted =
      cut-none (λ cuts. false≢true (accepted.1 (ap last_offset held_is ∙ cuts.covered ∙ ap length (sym put_is))))

-- ---- what is read

length-index_of : (n : ℕ) (b index bytes : List ℕ) → split_index n b ≡ Some (index, bytes) → length index ≡ (n + 1) * 8
length-index_of n b index bytes is =
    let len = index_len n in
    let rest = drop 8 b in
    let p = only_parts (nat_le (8 + len) (length b) && eqb (from_le_bytes w64 (take 8 b)) len) (Some (take len rest, drop len rest)) (index, bytes) is in
    let q = and_parts (nat_le (8 + len) (length b)) (eqb (from_le_bytes w64 (take 8 b)) len) p.0 in
    let room = leb-true (8 + len) (length b) q.0 in
    ap (λ parts. length parts.0) (sym (some_is p.1)) ∙ length-take-le len rest (omega (arith, length-drop 8 b)) ∙ omega arith

pub unindexed-as : (n : ℕ) (b index bytes offsets : List ℕ) → split_index n b ≡ Some (index, bytes)
    → offsets ≡ map (from_le_bytes w64) (first_chunks 8 (length index / 8) index) → cut offsets bytes ≡ unindexed n b
unindexed-as n b index bytes offsets split is =
    let count : length index / 8 ≡ n + 1 = ap (λ m. m / 8) (length-index_of n b index bytes split) ∙ mul-div_cancel (n + 1) (omega arith) in
    ap (λ os. cut os bytes) (is ∙ ap (λ m. map (from_le_bytes w64) (first_chunks 8 m index)) count)
    ∙ ap (option_and_then (λ parts. cut (offsets_in n parts.0) parts.1)) (sym split)
