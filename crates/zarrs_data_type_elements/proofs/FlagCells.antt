-- Flags and the cells that they stand for.
use Rattle.std.proofs.Common.{◌≡◌, ℕ, ◌+◌, ◌<◌, ◌≤◌, zero, suc, Bool, true, false, cond, eqb, ltb, List, [], ◌∷◌}
use Rattle.std.proofs.Common.{◌++◌, length, take, get_or, map, None, Some, refl, sym, ap, ◌∙◌, arith}
use Rattle.std.specs.Prelude.{◌&&◌}
use Rattle.std.specs.Int.{from_bool}
use Rattle.std.specs.List.{flat_map, list_all}
use Rattle.std.proofs.lemmas.List.{take_more, map-append}
use Rattle.std.proofs.lemmas.Simd.{map-map}
use Rattle.zarrs_data_type_kinds.specs.Kind.{Kind}
use Rattle.zarrs_data_type_kinds.specs.Kind as type
use Rattle.zarrs_data_type_kinds.specs.Cell.{bytes}
use Rattle.zarrs_data_type_bytes.specs.ArrayData.{fixed}
use Rattle.zarrs_data_type_bytes.specs.Cells.{cells}
use Rattle.zarrs_data_type_bytes.proofs.Fixed.{cells-held, cells-not_held}
use Rattle.zarrs_data_type_bytes.proofs.Pieces.{length-flat_map_same, pieces-flat_map}

abbrev flag : Bool → List ℕ
flag b = from_bool b ∷ []

flat_flags : (fs : List Bool) → flat_map flag fs ≡ map from_bool fs
flat_flags [] = refl
flat_flags (f ∷ fs) = ap (λ l. from_bool f ∷ l) (flat_flags fs)

flag_below : (f : Bool) → ltb (from_bool f) 2 ≡ true
flag_below true = refl
flag_below false = refl

flags_held : (fs : List Bool) → list_all (λ x. ltb x 2) (map from_bool fs) ≡ true
flags_held [] = refl
flags_held (f ∷ fs) = ap (λ b. b && list_all (λ x. ltb x 2) (map from_bool fs)) (flag_below f) ∙ flags_held fs

-- the cells of flags
cells-flags : (fs : List Bool) → cells type.bool (fixed (map from_bool fs)) ≡ Some (map (λ f. bytes (flag f)) fs)
cells-flags fs =
    let each : (i : ℕ) (d : Bool) → i < length fs → length (flag (get_or fs i d)) ≡ 1 = λ i d lt. refl in
    let held : list_all (λ x. ltb x 2) (flat_map flag fs) ≡ true = ap (list_all (λ x. ltb x 2)) (flat_flags fs) ∙ flags_held fs in
    ap (λ b. cells type.bool (fixed b)) (sym (flat_flags fs))
    ∙ cells-held type.bool 1 refl (flat_map flag fs) (length fs) (omega arith) (length-flat_map_same flag 1 fs each) held
    ∙ ap (λ ps. Some (map bytes ps)) (pieces-flat_map flag 1 fs each)
    ∙ ap Some (map-map bytes flag fs)

-- bytes that were made of flags
pub flags-made : (k : Kind) (fs : List Bool) (b : List ℕ) → k ≡ type.bool → b ≡ map from_bool fs → cells k (fixed b) ≡ Some (map (λ f. bytes (from_bool f ∷ [])) fs)
flags-made k fs b same made = ap (λ j. cells j (fixed b)) same ∙ ap (λ c. cells type.bool (fixed c)) made ∙ cells-flags fs

-- and flags that were read
pub flags-read : (k : Kind) (fs : List Bool) (b : List ℕ) → k ≡ type.bool → Some (map from_bool fs) ≡ cond (list_all (λ x. ltb x 2) b) (Some b) None → cells k (fixed b) ≡ Some (map (λ f. bytes (from_bool f ∷ [])) fs)
flags-read k fs b same read = go (list_all (λ x. ltb x 2) b) read
  where
    go : (t : Bool) → Some (map from_bool fs) ≡ cond t (Some b) None → cells k (fixed b) ≡ Some (map (λ f. bytes (from_bool f ∷ [])) fs)
    go true e = let made : map from_bool fs ≡ b = cc in flags-made k fs b same (sym made)
    go false e = cc

pub flags-unread : (k : Kind) (b : List ℕ) → k ≡ type.bool → None ≡ cond (list_all (λ x. ltb x 2) b) (Some b) None → cells k (fixed b) ≡ None
flags-unread k b same read = go (list_all (λ x. ltb x 2) b) refl read
  where
    go : (t : Bool) → list_all (λ x. ltb x 2) b ≡ t → None ≡ cond t (Some b) None → cells k (fixed b) ≡ None
    go true all e = cc
    go false all e = ap (λ j. cells j (fixed b)) same ∙ cells-not_held type.bool 1 refl b (length b) (omega arith) (omega arith) all

-- ---- a step of the loop that reads

flag_of_byte : (x : ℕ) → x ≤ 1 → from_bool (eqb x 1) ≡ x
flag_of_byte zero h = refl
flag_of_byte (suc zero) h = refl
flag_of_byte (suc (suc x)) h = absurd (omega arith)

pub flags_more : (b : List ℕ) (i : ℕ) (old new : List Bool) → i < length b → get_or b i 0 ≤ 1 → map from_bool old ≡ take i b → new ≡ old ++ eqb (get_or b i 0) 1 ∷ [] → map from_bool new ≡ take (i + 1) b
flags_more b i old new below small kept pushed =
    ap (map from_bool) pushed
    ∙ map-append from_bool old (eqb (get_or b i 0) 1 ∷ [])
    ∙ ap (λ t. t ++ from_bool (eqb (get_or b i 0) 1) ∷ []) kept
    ∙ ap (λ x. take i b ++ x ∷ []) (flag_of_byte (get_or b i 0) small)
    ∙ sym (take_more b i 0 below)
