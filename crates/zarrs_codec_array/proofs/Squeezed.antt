-- The shape that `squeeze` makes.
use Rattle.std.proofs.Common.{◌≡◌, ℕ, ◌+◌, ◌<◌, Bool, true, false, cond, eqb, List, [], ◌∷◌, ◌++◌, length, take, get_or, refl, ap, ◌∙◌}
use Rattle.std.proofs.lemmas.List.{take_more}
use Rattle.zarrs_codec_array.specs.Arrays.{squeeze_shape}

inner : (n x : ℕ) (s : List ℕ) (b c : Bool) → cond b (cond c (squeeze_shape s) (squeeze_shape s ++ x ∷ [])) (n ∷ cond c (squeeze_shape s) (squeeze_shape s ++ x ∷ [])) ≡ cond c (cond b (squeeze_shape s) (n ∷ squeeze_shape s)) (cond b (squeeze_shape s) (n ∷ squeeze_shape s) ++ x ∷ [])
inner n x s true true = refl
inner n x s true false = refl
inner n x s false true = refl
inner n x s false false = refl

squeeze_append : (xs : List ℕ) (x : ℕ) → squeeze_shape (xs ++ x ∷ []) ≡ cond (eqb x 1) (squeeze_shape xs) (squeeze_shape xs ++ x ∷ [])
squeeze_append [] x = refl
squeeze_append (n ∷ xs) x =
    ap (λ l. cond (eqb n 1) l (n ∷ l)) (squeeze_append xs x) ∙ inner n x xs (eqb n 1) (eqb x 1)

pub squeeze_more : (s : List ℕ) (i : ℕ) → i < length s → squeeze_shape (take (i + 1) s) ≡ cond (eqb (get_or s i 0) 1) (squeeze_shape (take i s)) (squeeze_shape (take i s) ++ get_or s i 0 ∷ [])
squeeze_more s i lt = ap squeeze_shape (take_more s i 0 lt) ∙ squeeze_append (take i s) (get_or s i 0)
