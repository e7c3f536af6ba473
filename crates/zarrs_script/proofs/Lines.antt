-- Reading a script line by line, and running its commands one after another.
use Rattle.std.proofs.Common.{◌≡◌, ℕ, ◌+◌, ◌||◌, Bool, true, false, List, [], ◌∷◌, ◌++◌, length, drop, Option, Some, None, Result, Ok, Err}
use Rattle.std.proofs.Common.{refl, sym, ap, subst, ◌∙◌, append_assoc, arith}
use Rattle.std.proofs.lemmas.List.{append-nil, at_drop_all}
use Rattle.zarrs_script.specs.declared.cell_type.CellType.{CellType}
use Rattle.zarrs_script.specs.Script.{Order, order_of, type_after, is_skipped, onto, orders_from}
use Rattle.zarrs_script.specs.Transcript.{Session, Does}
use Rattle.zarrs_script.specs.Sessions.{Follows, HasRun}
use Rattle.zarrs_script.proofs.Lists.{IsPart, at_part}
use Rattle.zarrs_script.proofs.Transcripts.{one_more}

-- what was read before, and what is still read
abbrev pub with_orders : List Order → Result (List Order) ℕ → Result (List Order) ℕ
with_orders front (Ok orders) = Ok (front ++ orders)
with_orders front (Err n) = Err n

pub from_none : (read : Result (List Order) ℕ) → with_orders [] read ≡ read
from_none (Ok orders) = refl
from_none (Err n) = refl

regroup : (front : List Order) (order : Order) (read : Result (List Order) ℕ) → with_orders front (onto order read) ≡ with_orders (front ++ order ∷ []) read
regroup front order (Ok orders) = ap (λ (xs : List Order). Ok xs) (sym (append_assoc front (order ∷ []) orders))
regroup front order (Err n) = refl

module _ (front : List Order) (n : ℕ) (known : Option CellType) (lines : List (List ℕ)) (k : ℕ) where
  module _ (line : List ℕ) (turn : IsPart lines k line) where
    pub line_skipped : is_skipped line ≡ true → with_orders front (orders_from n known (drop k lines)) ≡ with_orders front (orders_from (n + 1) known (drop (k + 1) lines))
    unfolding orders_from
    line_skipped h = at_part (λ ws. with_orders front (orders_from n known ws)) lines k line turn ∙ rw h refl

    pub line_read : is_skipped line ≡ false → (order : Order) → order_of known line ≡ Some order
        → with_orders front (orders_from n known (drop k lines)) ≡ with_orders (front ++ order ∷ []) (orders_from (n + 1) (type_after known order) (drop (k + 1) lines))
    unfolding orders_from
    line_read h order said =
        at_part (λ ws. with_orders front (orders_from n known ws)) lines k line turn ∙ rw (h, said) (regroup front order (orders_from (n + 1) (type_after known order) (drop (k + 1) lines)))

    pub line_unread : is_skipped line ≡ false → order_of known line ≡ None → with_orders front (orders_from n known (drop k lines)) ≡ Err n
    unfolding orders_from
    line_unread h said = at_part (λ ws. with_orders front (orders_from n known ws)) lines k line turn ∙ rw (h, said) refl

  pub all_lines : k ≡ length lines → with_orders front (orders_from n known (drop k lines)) ≡ Ok front
  unfolding orders_from
  all_lines all = at_drop_all (λ ws. with_orders front (orders_from n known ws)) lines k (omega arith) ∙ ap (λ (xs : List Order). Ok xs) (append-nil front)

-- of these orders all are done but those that are left
abbrev pub HasDone : List Order → List Order → List ℕ → Bool → Session → Type 0
HasDone orders left text refused after = (done : List Order) × (orders ≡ done ++ left) × Follows None done text refused after

pub none_done : (orders : List Order) → HasDone orders orders [] false None
none_done orders = ([], refl, refl)

pub order_done : (orders left : List Order) (order : Order) (out text : List ℕ) (refused again : Bool) (middle after : Session)
    → HasDone orders (order ∷ left) out refused middle → Does middle order (record { text = text; refused = again; after = after }) → HasDone orders left (out ++ text) (refused || again) after
order_done orders left order out text refused again middle after so here =
    (so.0 ++ order ∷ [], so.1 ∙ sym (append_assoc so.0 (order ∷ []) left), one_more None middle after so.0 order out text refused again so.2 here)

pub all_done : (orders : List Order) (text : List ℕ) (refused : Bool) (after : Session) → HasDone orders [] text refused after → HasRun orders text refused
all_done orders text refused after so = (after, subst (λ (done : List Order). Follows None done text refused after) (sym (so.1 ∙ append-nil so.0)) so.2)
