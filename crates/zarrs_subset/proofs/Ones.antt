-- Numbers of an array without those of dimensions of extent 1.
use Rattle.std.proofs.Common.{◌≡◌, ℕ, zero, suc, ◌+◌, ◌*◌, ◌<◌, Bool, true, false, cond, eqb, List, [], ◌∷◌, ◌++◌, length, take, get_or}
use Rattle.std.proofs.Common.{refl, ap, ◌∙◌, arith}
use Rattle.std.proofs.lemmas.Bool.{eqb-true}
use Rattle.zarrs_subset.specs.Boxes.{position_count, without_ones}

-- ---- one dimension more, behind

inner : (y x : ℕ) (s : List ℕ) (b c : Bool) → cond b (cond c s (s ++ x ∷ [])) (y ∷ cond c s (s ++ x ∷ [])) ≡ cond c (cond b s (y ∷ s)) (cond b s (y ∷ s) ++ x ∷ [])
inner y x s true true = refl
inner y x s true false = refl
inner y x s false true = refl
inner y x s false false = refl

one_more : (shape ys : List ℕ) (i : ℕ) → i < length shape → length shape ≡ length ys
    → without_ones (take (suc i) shape) ys ≡ cond (eqb (get_or shape i 0) 1) (without_ones (take i shape) ys) (without_ones (take i shape) ys ++ get_or ys i 0 ∷ [])
one_more [] ys i lt len = absurd (omega arith)
one_more (n ∷ shape) [] i lt len = absurd (omega arith)
one_more (n ∷ shape) (y ∷ ys) zero lt len = refl
one_more (n ∷ shape) (y ∷ ys) (suc i) lt len =
    ap (λ l. cond (eqb n 1) l (y ∷ l)) (one_more shape ys i (omega arith) (omega arith))
    ∙ inner y (get_or ys i 0) (without_ones (take i shape) ys) (eqb n 1) (eqb (get_or shape i 0) 1)

pub without_ones_more : (shape ys : List ℕ) (i : ℕ) → i < length shape → length shape ≡ length ys
    → without_ones (take (i + 1) shape) ys ≡ cond (eqb (get_or shape i 0) 1) (without_ones (take i shape) ys) (without_ones (take i shape) ys ++ get_or ys i 0 ∷ [])
without_ones_more shape ys i lt len =
    let next : i + 1 ≡ suc i = omega arith in
    ap (λ k. without_ones (take k shape) ys) next ∙ one_more shape ys i lt len

pub not_one : (x : ℕ) → (x ≡ 1 → ⊥) → eqb x 1 ≡ false
not_one x differ = go (eqb x 1) refl
  where
    go : (b : Bool) → eqb x 1 ≡ b → b ≡ false
    go true e = absurd (differ (eqb-true x 1 e))
    go false e = refl

-- ---- the array without them

length_step : (b : Bool) (x y : ℕ) (xs ys : List ℕ) → length xs ≡ length ys → length (cond b xs (x ∷ xs)) ≡ length (cond b ys (y ∷ ys))
length_step true x y xs ys same = same
length_step false x y xs ys same = ap suc same

pub length-without_ones : (shape xs ys : List ℕ) → length xs ≡ length ys → length (without_ones shape xs) ≡ length (without_ones shape ys)
length-without_ones [] xs ys same = refl
length-without_ones (n ∷ shape) [] [] same = refl
length-without_ones (n ∷ shape) [] (y ∷ ys) same = absurd (omega arith)
length-without_ones (n ∷ shape) (x ∷ xs) [] same = absurd (omega arith)
length-without_ones (n ∷ shape) (x ∷ xs) (y ∷ ys) same =
    length_step (eqb n 1) x y (without_ones shape xs) (without_ones shape ys) (length-without_ones shape xs ys (omega arith))

count_step : (n : ℕ) (xs : List ℕ) (b : Bool) → eqb n 1 ≡ b → position_count (cond b xs (n ∷ xs)) ≡ n * position_count xs
count_step n xs true is = let one = eqb-true n 1 is in let same : n * position_count xs ≡ 1 * position_count xs = ap (λ m. m * position_count xs) one in omega arith
count_step n xs false is = refl

pub count-without_ones : (shape : List ℕ) → position_count (without_ones shape shape) ≡ position_count shape
count-without_ones [] = refl
count-without_ones (n ∷ shape) = count_step n (without_ones shape shape) (eqb n 1) refl ∙ ap (λ m. n * m) (count-without_ones shape)
