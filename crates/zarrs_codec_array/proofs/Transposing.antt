-- Data of arrays whose dimensions are in another order.
use Rattle.std.proofs.Common.{◌≡◌, ℕ, zero, suc, ◌+◌, ◌*◌, ◌<◌, List, [], ◌∷◌, ◌++◌, length, take, drop, refl, ap, ◌∙◌, arith, append-nil}
use Rattle.std.specs.Prelude.{slice_index}
use Rattle.std.proofs.lemmas.List.{length-map, take_all, drop_all}
use Rattle.std.proofs.Math.Nat.{mul_assoc, add-mul}
use Rattle.zarrs_codec_array.specs.Orders.{dot_product, scaled, permuted}
use Rattle.zarrs_codec_array.specs.Gathered.{AreWithin}
use Rattle.zarrs_codec_array.proofs.Gathering.{row_end}

-- a number of a scaled list
scaled_at : (size : ℕ) (xs : List ℕ) (j : ℕ) → slice_index (scaled size xs) j ≡ slice_index xs j * size
scaled_at size [] j = omega arith
scaled_at size (x ∷ xs) zero = refl
scaled_at size (x ∷ xs) (suc j) = scaled_at size xs j

pub permuted-scaled : (size : ℕ) (way xs : List ℕ) → permuted way (scaled size xs) ≡ scaled size (permuted way xs)
permuted-scaled size [] xs = refl
permuted-scaled size (j ∷ way) xs = ap (λ x. x ∷ permuted way (scaled size xs)) (scaled_at size xs j) ∙ ap (λ l. (slice_index xs j * size) ∷ l) (permuted-scaled size way xs)

pub dot-scaled : (size : ℕ) (steps q : List ℕ) → dot_product (scaled size steps) q ≡ dot_product steps q * size
dot-scaled size [] q = omega arith
dot-scaled size (a ∷ steps) [] = omega arith
dot-scaled size (a ∷ steps) (i ∷ q) =
    ap (λ x. i * (a * size) + x) (dot-scaled size steps q)
    ∙ omega (arith, mul_assoc i a size, add-mul (i * a) (dot_product steps q) size)

pub within-scaled : (size n : ℕ) (shape steps : List ℕ) → AreWithin 1 shape steps 0 n → AreWithin size shape (scaled size steps) 0 (n * size)
within-scaled size n shape steps within = record {
  each = λ q inside.
      let below : dot_product steps q < n = (let room = within.each q inside in omega arith) in
      omega (arith, dot-scaled size steps q, row_end (dot_product steps q) n size below);
}

-- a list lent as a slice
pub lent_back : (new items : List ℕ) (n : ℕ) → length new ≡ length items → n ≡ length items → take n (new ++ drop (length new) items) ≡ new
lent_back new items n same is =
    ap (λ l. take n (new ++ l)) (drop_all (length new) items (omega arith)) ∙ ap (take n) (append-nil new) ∙ take_all n new (omega arith)

pub length-scaled : (size : ℕ) (xs : List ℕ) → length (scaled size xs) ≡ length xs
length-scaled size xs = length-map xs (λ n. n * size)

pub scaled-one : (xs : List ℕ) → scaled 1 xs ≡ xs
scaled-one [] = refl
scaled-one (x ∷ xs) = let one : x * 1 ≡ x = omega arith in ap (λ n. n ∷ scaled 1 xs) one ∙ ap (λ l. x ∷ l) (scaled-one xs)
