-- The first piece of a list that is cut where a test holds.
use Rattle.std.proofs.Common.{◌≡◌, ◌+◌, ◌-◌, ◌<◌, ◌≤◌, ℕ, List, [], ◌∷◌, length, take, drop, Bool, true, false, cond}
use Rattle.std.proofs.Common.{nat_lt, Option, Some, None, refl, ap, sym, ◌∙◌, arith}
use Rattle.std.specs.List.{slice_split, onto_first, position, position_or_len}
use Rattle.std.proofs.lemmas.List.Splits.{slice_split_first, slice_split-cons_no, length-slice_split}
use Rattle.std.proofs.lemmas.Bool.Decides.{nat_tests}
use Rattle.std.proofs.lemmas.List.{take_all, length-drop}

when_found : (place at count : ℕ) (b : Bool) → nat_lt at count ≡ b → cond b (Some at) None ≡ Some place → (at < count) × (at ≡ place)
when_found place at count true e h = (grind (arith, nat_tests), cc)
when_found place at count false e h = absurd (cc)

-- the piece before the first element that passes, and those after it
pub cut_at : (test : ℕ → Bool) (xs : List ℕ) (place : ℕ) → position test xs ≡ Some place → slice_split test xs ≡ take place xs ∷ slice_split test (take (length xs - (place + 1)) (drop (place + 1) xs))
cut_at test xs place h =
    let found = when_found place (position_or_len test xs) (length xs) (nat_lt (position_or_len test xs) (length xs)) refl h in
    let long = length-drop (place + 1) xs in
    let whole : take (length xs - (place + 1)) (drop (place + 1) xs) ≡ drop (place + 1) xs = take_all (length xs - (place + 1)) (drop (place + 1) xs) (omega (arith, long)) in
    slice_split_first test xs 0 found.0 ∙ ap (λ (k : ℕ). take k xs ∷ slice_split test (drop (k + 1) xs)) found.1 ∙ ap (λ (rest : List ℕ). take place xs ∷ slice_split test rest) (sym whole)

pub within : (test : ℕ → Bool) (xs : List ℕ) (place : ℕ) → position test xs ≡ Some place → place < length xs
within test xs place h =
    let found = when_found place (position_or_len test xs) (length xs) (nat_lt (position_or_len test xs) (length xs)) refl h in
    let lt = found.0 in
    let e = found.1 in
    omega arith

one_more : (test : ℕ → Bool) (x : ℕ) (xs : List ℕ) (b : Bool) → test x ≡ b → length (x ∷ xs) ≤ position_or_len test (x ∷ xs) → (length xs ≤ position_or_len test xs → slice_split test xs ≡ xs ∷ []) → slice_split test (x ∷ xs) ≡ (x ∷ xs) ∷ []
one_more test x xs true e h rest =
    let none : position_or_len test (x ∷ xs) ≡ 0 = rw e refl in
    absurd (omega (arith, none, h))
one_more test x xs false e h rest =
    let more : position_or_len test (x ∷ xs) ≡ 1 + position_or_len test xs = rw e refl in
    slice_split-cons_no test x xs e ∙ ap (onto_first x) (rest (omega (arith, more, h)))

none_passes : (test : ℕ → Bool) (xs : List ℕ) → length xs ≤ position_or_len test xs → slice_split test xs ≡ xs ∷ []
none_passes test [] h = refl
none_passes test (x ∷ xs) h = one_more test x xs (test x) refl h (none_passes test xs)

not_below : (at count : ℕ) (b : Bool) → nat_lt at count ≡ b → ◌≡◌ {A = Option ℕ} (cond b (Some at) None) None → count ≤ at
not_below at count true e h = absurd (cc)
not_below at count false e h = grind (arith, nat_tests)

-- nothing passes: the list is one piece
pub uncut : (test : ℕ → Bool) (xs : List ℕ) → position test xs ≡ None → slice_split test xs ≡ xs ∷ []
uncut test xs h = none_passes test xs (not_below (position_or_len test xs) (length xs) (nat_lt (position_or_len test xs) (length xs)) refl h)

-- there is always a piece
pub some_piece : (test : ℕ → Bool) (xs : List ℕ) → slice_split test xs ≡ [] → ⊥
some_piece test xs e =
    let long = length-slice_split test xs in
    let none : length (slice_split test xs) ≡ 0 = ap length e in
    absurd (omega (arith, long, none))

-- so a list of one word has no rest
pub no_rest : (test : ℕ → Bool) (words : List (List ℕ)) (first rest : List ℕ) → words ≡ first ∷ slice_split test rest → (word : List ℕ) → words ≡ word ∷ [] → ⊥
no_rest test words first rest is word one =
    let long = length-slice_split test rest in
    let two = ap length is in
    let single = ap length one in
    absurd (omega (arith, long, two, single))
