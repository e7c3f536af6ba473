-- Bytes that are one piece again and again.
use Rattle.std.proofs.Common.{◌≡◌, ℕ, zero, suc, ◌+◌, ◌-◌, ◌*◌, ◌<◌, ◌≤◌, Bool, true, false, List, [], ◌∷◌, ◌++◌}
use Rattle.std.proofs.Common.{length, take, drop, replicate, refl, sym, ap, ◌∙◌, arith, append_assoc, append-nil}
use Rattle.std.specs.List.{flat_map, list_all, repeat}
use Rattle.std.specs.Str.{bytes_eq}
use Rattle.std.specs.Bool.{Decides, one_answer}
use Rattle.std.proofs.lemmas.Bool.{and_parts}
use Rattle.std.proofs.lemmas.List.{take_at, take-take, drop-take, take-append-drop}
use Rattle.std.proofs.lemmas.Slice.Eq.{bytes_eq-Decides}
use Rattle.std.proofs.Math.Nat.{suc-mul}
use Rattle.std.proofs.Math.Seq.{take-add, drop-append_seam}
use Rattle.zarrs_subset.specs.Pieces.{pieces}
use Rattle.zarrs_data_type_bytes.proofs.Pieces.{length-pieces, length-repeat, pieces-cons, pieces-joined, repeat_more}

-- what repeats what stands one piece before is the first piece again and again
period : (f b : List ℕ) (n : ℕ) → take (length f) b ≡ f → take (n * length f) (drop (length f) b) ≡ take (n * length f) b
    → take (suc n * length f) b ≡ repeat (suc n) f
period f b zero first again =
    let one : suc zero * length f ≡ length f = omega arith in
    ap (λ k. take k b) one ∙ first ∙ sym (append-nil f)
period f b (suc n) first again =
    let w = length f in
    let more : n * w ≤ suc n * w = omega (arith, suc-mul n w) in
    let next : suc (suc n) * w ≡ w + suc n * w = omega (arith, suc-mul (suc n) w) in
    let less : take (n * w) (drop w b) ≡ take (n * w) b =
    sym (take-take (n * w) (suc n * w) (drop w b) more) ∙ ap (take (n * w)) again ∙ take-take (n * w) (suc n * w) b more in
    ap (λ k. take k b) next
    ∙ take-add w (suc n * w) b
    ∙ ap (λ l. l ++ take (suc n * w) (drop w b)) first
    ∙ ap (λ l. f ++ l) (again ∙ period f b n first less)

-- and what is one piece again and again does so
period_back : (f b : List ℕ) (n : ℕ) → take (suc n * length f) b ≡ repeat (suc n) f
    → take (n * length f) (drop (length f) b) ≡ take (n * length f) b
period_back f b n is =
    let w = length f in
    let whole : w + n * w ≡ suc n * w = omega (arith, suc-mul n w) in
    let more : n * w ≤ suc n * w = omega (arith, suc-mul n w) in
    let one : suc n ≡ n + 1 = omega arith in
    sym (drop-take w (n * w) b)
    ∙ ap (λ k. drop w (take k b)) whole
    ∙ ap (drop w) is
    ∙ drop-append_seam f (repeat n f)
    ∙ sym (take_at (repeat n f) f (n * w) (length-repeat f n))
    ∙ ap (take (n * w)) (sym (repeat_more f n) ∙ ap (λ k. repeat k f) (sym one) ∙ sym is)
    ∙ take-take (n * w) (suc n * w) b more

-- pieces that are all the same, put together
joined_same : (f : List ℕ) (ps : List (List ℕ)) → list_all (λ p. bytes_eq p f) ps ≡ true → flat_map (λ x. x) ps ≡ repeat (length ps) f
joined_same f [] all = refl
joined_same f (p ∷ ps) all =
    let both = and_parts (bytes_eq p f) (list_all (λ q. bytes_eq q f) ps) all in
    ap (λ l. l ++ flat_map (λ x. x) ps) ((bytes_eq-Decides p f).0 both.0) ∙ ap (λ l. f ++ l) (joined_same f ps both.1)

pieces-repeat_behind : (f rest : List ℕ) (n : ℕ) → pieces (length f) n (repeat n f ++ rest) ≡ replicate n f
pieces-repeat_behind f rest zero = refl
pieces-repeat_behind f rest (suc n) =
    ap (pieces (length f) (suc n)) (append_assoc f (repeat n f) rest)
    ∙ pieces-cons (length f) n f (repeat n f ++ rest) refl
    ∙ ap (λ l. f ∷ l) (pieces-repeat_behind f rest n)

all_replicate : (f : List ℕ) (n : ℕ) → list_all (λ p. bytes_eq p f) (replicate n f) ≡ true
all_replicate f zero = refl
all_replicate f (suc n) = rw ((bytes_eq-Decides f f).1 refl) (all_replicate f n)

-- each of the first n pieces is the piece exactly where their bytes are it, n times
all_pieces-Decides : (f b : List ℕ) (n : ℕ) → Decides (list_all (λ p. bytes_eq p f) (pieces (length f) n b)) (take (n * length f) b ≡ repeat n f)
all_pieces-Decides f b n =
    let w = length f in (
      λ all. sym (pieces-joined w n b) ∙ joined_same f (pieces w n b) all ∙ ap (λ k. repeat k f) (length-pieces w n b),
      λ is.
          let whole : b ≡ repeat n f ++ drop (n * w) b = sym (take-append-drop (n * w) b) ∙ ap (λ l. l ++ drop (n * w) b) is in
          ap (λ l. list_all (λ p. bytes_eq p f) (pieces w n l)) whole
          ∙ ap (list_all (λ p. bytes_eq p f)) (pieces-repeat_behind f (drop (n * w) b) n)
          ∙ all_replicate f n,
    )

-- where the first piece is this one, the test of what stands behind is the test of the pieces
pub behind_tests : (f b : List ℕ) (n k : ℕ) (r : Bool) → 0 < n → k ≡ n * length f - length f → take (length f) b ≡ f
    → r ≡ bytes_eq (take k (drop (length f) b)) (take k b) → r ≡ list_all (λ p. bytes_eq p f) (pieces (length f) n b)
behind_tests f b zero k r some is first tested = absurd (omega arith)
behind_tests f b (suc n) k r some is first tested =
    let w = length f in
    let len : k ≡ n * w = omega (arith, is, suc-mul n w) in
    let test = bytes_eq-Decides (take (n * w) (drop w b)) (take (n * w) b) in
    let same : r ≡ bytes_eq (take (n * w) (drop w b)) (take (n * w) b) = tested ∙ ap (λ j. bytes_eq (take j (drop w b)) (take j b)) len in
    one_answer r (list_all (λ p. bytes_eq p f) (pieces w (suc n) b))
    (λ yes. period f b n first (test.0 (sym same ∙ yes)), λ is. same ∙ test.1 (period_back f b n is))
    (all_pieces-Decides f b (suc n))

-- where it is another one, not all pieces are
pub first_tests : (f b : List ℕ) (n : ℕ) (r : Bool) → 0 < n → r ≡ bytes_eq (take (length f) b) f → r ≡ false
    → r ≡ list_all (λ p. bytes_eq p f) (pieces (length f) n b)
first_tests f b zero r some tested other = absurd (omega arith)
first_tests f b (suc n) r some tested other =
    let w = length f in
    one_answer r (list_all (λ p. bytes_eq p f) (pieces w (suc n) b)) (
      λ yes. absurd (contradiction (sym other ∙ yes)),
      λ is. tested ∙ (bytes_eq-Decides (take w b) f).1
          (sym (take-take w (suc n * w) b (omega (arith, suc-mul n w))) ∙ ap (take w) is ∙ take_at f (repeat n f) w refl),
    )
    (all_pieces-Decides f b (suc n))
  where
    contradiction : false ≡ true → ⊥
    contradiction e = cc

-- a product that is not 0 has no factor 0
pub some_whole : (n size : ℕ) → (n * size ≡ 0 → ⊥) → 0 < n
some_whole zero size some = absurd (some (omega arith))
some_whole (suc n) size some = omega arith
