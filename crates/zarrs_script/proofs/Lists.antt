-- Reading a list item by item.
use Rattle.std.proofs.Common.{◌≡◌, ◌==◌, ℕ, ◌+◌, ◌<◌, false, codes, List, [], ◌∷◌, ◌++◌, length, drop, get_or, Option, Some, None, refl}
use Rattle.std.proofs.Common.{sym, ap, ◌∙◌, append_assoc, arith}
use Rattle.std.proofs.lemmas.List.{at_drop_more, at_drop_all, append-nil}
use Rattle.std.specs.List.{concat, slice_split}
use Rattle.std.specs.Str.{bytes_eq}
use Rattle.std.specs.Iterator.{Yields}
use Rattle.std.proofs.lemmas.Iterator.{YieldsList}
use Rattle.std.proofs.lemmas.Iterator.Consumers.{YieldsList-turn, YieldsList-end}
use Rattle.zarrs_metadata_parts.specs.Extension.{◌>>=◌}
use Rattle.zarrs_script.specs.declared.error.ParseError.{ParseError}
use Rattle.zarrs_script.specs.declared.error.ParseError.TheVariants.{NotACommand, OutOfMemory}
use Rattle.zarrs_script.specs.Words.{each_of, items_of}
use Rattle.zarrs_script.specs.CellTexts.{joined_cells}
use Rattle.zarrs_script.specs.Script.{Order, lone_order}
use Rattle.zarrs_script.specs.Parsed.{Fails}

-- the word is number k of the parts
abbrev pub IsPart : List (List ℕ) → ℕ → List ℕ → Type 0
IsPart parts k word = (k < length parts) × (word ≡ get_or parts k word)

pub at_part : {Y : Type 0} (f : List (List ℕ) → Y) (parts : List (List ℕ)) (k : ℕ) (word : List ℕ) → IsPart parts k word → f (drop k parts) ≡ f (word ∷ drop (k + 1) parts)
at_part f parts k word turn = at_drop_more f parts k word turn.0 ∙ ap (λ (w : List ℕ). f (w ∷ drop (k + 1) parts)) (sym turn.1)

-- a word that is not `-` has the items between its commas
pub items_joined : (word : List ℕ) → bytes_eq word (codes "-") ≡ false → items_of word ≡ slice_split (λ b. b == 44) word
unfolding items_of
items_joined word h = rw h refl

-- what an iterator gave at this turn is the next of the list that it yields
pub turn : {S A B : Type 0} {steps : S → Option A → S → Type 0} {v : A → B} {s : S} {all : List B} (xs : List A) (t : S) → Yields steps s xs t → (r : Option A) (u : S) (x : A) → r ≡ Some x → steps t r u → YieldsList steps v s all
    → (length xs < length all) × (v x ≡ get_or all (length xs) (v x))
turn xs t y r u x is goes yields = YieldsList-turn yields xs t y r u x is goes

-- and at the end it gave all of it
pub ended : {S A B : Type 0} {steps : S → Option A → S → Type 0} {v : A → B} {s : S} {all : List B} (xs : List A) (t : S) → Yields steps s xs t → (r : Option A) (u : S) → r ≡ None → steps t r u → YieldsList steps v s all
    → length xs ≡ length all
ended xs t y r u is goes yields = (YieldsList-end yields xs t y r u is goes).1

-- the numbers that were read before, and those that are still read
abbrev pub with_numbers : List ℕ → Option (List ℕ) → Option (List ℕ)
with_numbers front read = read >>= λ numbers. Some (front ++ numbers)

pub from_none : (read : Option (List ℕ)) → with_numbers [] read ≡ read
from_none None = refl
from_none (Some numbers) = refl

regroup : (front : List ℕ) (n : ℕ) (read : Option (List ℕ)) → with_numbers front (read >>= λ ns. Some (n ∷ ns)) ≡ with_numbers (front ++ n ∷ []) read
regroup front n None = refl
regroup front n (Some ns) = ap (λ (xs : List ℕ). Some xs) (sym (append_assoc front (n ∷ []) ns))

pub one_number : (item : List ℕ → Option ℕ) (front : List ℕ) (parts : List (List ℕ)) (k n : ℕ) (word : List ℕ) → IsPart parts k word → item word ≡ Some n → with_numbers front (each_of item (drop k parts)) ≡ with_numbers (front ++ n ∷ []) (each_of item (drop (k + 1) parts))
one_number item front parts k n word turn h = at_part (λ ws. with_numbers front (each_of item ws)) parts k word turn ∙ rw h (regroup front n (each_of item (drop (k + 1) parts)))

pub no_number : (item : List ℕ → Option ℕ) (front : List ℕ) (parts : List (List ℕ)) (k : ℕ) (word : List ℕ) → IsPart parts k word → item word ≡ None → with_numbers front (each_of item (drop k parts)) ≡ None
no_number item front parts k word turn h = at_part (λ ws. with_numbers front (each_of item ws)) parts k word turn ∙ rw h refl

pub all_numbers : (item : List ℕ → Option ℕ) (front : List ℕ) (parts : List (List ℕ)) (k : ℕ) → k ≡ length parts → with_numbers front (each_of item (drop k parts)) ≡ Some front
all_numbers item front parts k all = at_drop_all (λ ws. with_numbers front (each_of item ws)) parts k (omega arith) ∙ ap (λ (xs : List ℕ). Some xs) (append-nil front)

-- the bytes of the cells that were read before, and of those that are still read
abbrev pub with_cells : List ℕ → Option (List (List ℕ)) → Option (List ℕ)
with_cells front read = with_numbers front (joined_cells read)

regroup_cells : (front cell : List ℕ) (read : Option (List (List ℕ))) → with_cells front (read >>= λ cells. Some (cell ∷ cells)) ≡ with_cells (front ++ cell) read
regroup_cells front cell None = refl
regroup_cells front cell (Some cells) = ap (λ (xs : List ℕ). Some xs) (sym (append_assoc front cell (concat cells)))

-- one cell more, if the list grew by it
cell_more : (front after : List ℕ) (said : Option (List ℕ)) (rest : Option (List (List ℕ))) → (said >>= λ cell. Some (front ++ cell)) ≡ Some after
    → with_cells front (said >>= λ cell. rest >>= λ cells. Some (cell ∷ cells)) ≡ with_cells after rest
cell_more front after None rest h = absurd (cc)
cell_more front after (Some cell) rest h =
    let e : front ++ cell ≡ after = cc in
    regroup_cells front cell rest ∙ ap (λ (xs : List ℕ). with_cells xs rest) e

pub one_cell : (item : List ℕ → Option (List ℕ)) (front after : List ℕ) (parts : List (List ℕ)) (k : ℕ) (word : List ℕ) → IsPart parts k word → (item word >>= λ more. Some (front ++ more)) ≡ Some after
    → with_cells front (each_of item (drop k parts)) ≡ with_cells after (each_of item (drop (k + 1) parts))
one_cell item front after parts k word turn h = at_part (λ ws. with_cells front (each_of item ws)) parts k word turn ∙ cell_more front after (item word) (each_of item (drop (k + 1) parts)) h

no_cell : (item : List ℕ → Option (List ℕ)) (front : List ℕ) (parts : List (List ℕ)) (k : ℕ) (word : List ℕ) → IsPart parts k word → item word ≡ None → with_cells front (each_of item (drop k parts)) ≡ None
no_cell item front parts k word turn h = at_part (λ ws. with_cells front (each_of item ws)) parts k word turn ∙ rw h refl

pub all_cells : (item : List ℕ → Option (List ℕ)) (front : List ℕ) (parts : List (List ℕ)) (k : ℕ) → k ≡ length parts → with_cells front (each_of item (drop k parts)) ≡ Some front
all_cells item front parts k all = at_drop_all (λ ws. with_cells front (each_of item ws)) parts k (omega arith) ∙ ap (λ (xs : List ℕ). Some xs) (append-nil front)

-- a cell that is refused refuses the list
pub fails_at : (error : ParseError) (item : List ℕ → Option (List ℕ)) (front : List ℕ) (parts : List (List ℕ)) (k : ℕ) (word : List ℕ) (whole : Option (List ℕ)) → IsPart parts k word → Fails error (item word)
    → with_cells front (each_of item (drop k parts)) ≡ whole → Fails error whole
fails_at NotACommand item front parts k word whole turn h so_far = sym so_far ∙ no_cell item front parts k word turn h
fails_at OutOfMemory item front parts k word whole turn h so_far = tt

-- an order with a word after it is none
pub not_alone : (order : Order) (words : List (List ℕ)) → (words ≡ [] → ⊥) → lone_order order words ≡ None
not_alone order [] h = absurd (h refl)
not_alone order (word ∷ words) h = refl
