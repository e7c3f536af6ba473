-- Chunks of bytes put together.
use Rattle.std.proofs.Common.{◌≡◌, ℕ, zero, suc, ◌+◌, ◌*◌, ◌/◌, ◌%◌, ◌<◌, ◌≤◌, List, [], ◌∷◌, ◌++◌, length, map, take}
use Rattle.std.proofs.Common.{◌-◌, get_or, drop, refl, sym, ap, ◌∙◌, arith}
use Rattle.std.specs.Prelude.{slice_range}
use Rattle.std.specs.List.{flat_map}
use Rattle.std.specs.Simd.{first_chunks}
use Rattle.std.proofs.lemmas.List.{take_all, drop-drop}
use Rattle.std.proofs.Math.Nat.{suc-mul}
use Rattle.std.proofs.Math.Seq.{take-add}

-- the first k chunks put together are the front
pub flat-first_chunks : {X : Type 0} (n k : ℕ) (xs : List X) → flat_map (λ x. x) (first_chunks n k xs) ≡ take (k * n) xs
flat-first_chunks n zero xs = let e : zero * n ≡ 0 = omega arith in sym (ap (λ m. take m xs) e)
flat-first_chunks n (suc k) xs =
    let next : n + k * n ≡ suc k * n = omega (arith, suc-mul k n) in
    ap (λ l. take n xs ++ l) (flat-first_chunks n k (drop n xs)) ∙ sym (take-add n (k * n) xs) ∙ ap (λ m. take m xs) next

-- chunks of a whole number of times
pub flat-chunks_all : {X : Type 0} (n : ℕ) (xs : List X) → 0 < n → length xs % n ≡ 0 → flat_map (λ x. x) (first_chunks n (length xs / n) xs) ≡ xs
flat-chunks_all n xs some whole =
    flat-first_chunks n (length xs / n) xs ∙ take_all (length xs / n * n) xs (whole_len (length xs) n some whole)
  where
    whole_len : (len n : ℕ) → 0 < n → len % n ≡ 0 → len ≤ len / n * n
    whole_len len n some whole = grind arith

pub flat_map-ids : {X Y : Type 0} (f : X → List Y) (xs : List X) → flat_map (λ y. y) (map f xs) ≡ flat_map f xs
flat_map-ids f [] = refl
flat_map-ids f (x ∷ xs) = ap (λ l. f x ++ l) (flat_map-ids f xs)

-- the chunk of number i
pub first_chunks-at : (n k i : ℕ) (xs : List ℕ) → i < k → get_or (first_chunks n k xs) i [] ≡ slice_range xs (i * n) (i * n + n)
first_chunks-at n zero i xs lt = absurd (omega arith)
first_chunks-at n (suc k) zero xs lt =
    let at : zero * n ≡ 0 = omega arith in
    let len : 0 + n - 0 ≡ n = omega arith in
    sym (ap (λ m. slice_range xs m (m + n)) at ∙ ap (λ m. take m xs) len)
first_chunks-at n (suc k) (suc i) xs lt =
    let next : n + i * n ≡ suc i * n = omega (arith, suc-mul i n) in
    let len : i * n + n - i * n ≡ suc i * n + n - suc i * n = omega arith in
    first_chunks-at n k i (drop n xs) (omega arith)
    ∙ ap (take (i * n + n - i * n)) (drop-drop (i * n) n xs ∙ ap (λ m. drop m xs) next)
    ∙ ap (λ m. take m (drop (suc i * n) xs)) len
