-- Texts of lists, one item more.
use Rattle.std.proofs.Common.{◌≡◌, ℕ, zero, suc, ◌+◌, List, ◌++◌, ap, sym, ◌∙◌, append-nil, append_assoc, arith}
use Rattle.std.specs.List.{flat_map, range_with_len}

texts_suc : (f : ℕ → List ℕ) (a n j : ℕ) → a + n ≡ j → flat_map f (range_with_len a (suc n)) ≡ flat_map f (range_with_len a n) ++ f j
texts_suc f a zero j at = rw append-nil (ap f (omega (arith, at)))
texts_suc f a (suc n) j at =
    ap (λ t. f a ++ t) (texts_suc f (a + 1) n j (omega (arith, at))) ∙ sym (append_assoc (f a) (flat_map f (range_with_len (a + 1) n)) (f j))

-- the texts of one number more
pub texts_more : (f : ℕ → List ℕ) (a n j : ℕ) → a + n ≡ j → flat_map f (range_with_len a (n + 1)) ≡ flat_map f (range_with_len a n) ++ f j
texts_more f a n j at =
    let more : n + 1 ≡ suc n = omega arith in
    ap (λ m. flat_map f (range_with_len a m)) more ∙ texts_suc f a n j at
