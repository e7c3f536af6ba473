-- Changes of the array's shape: what they cut away, and what they leave.
use Rattle.std.proofs.Common.{◌≡◌, zero, suc, ℕ, Bool, true, false, not, ◌&&◌, cond, List, [], length}
use Rattle.std.proofs.Common.{take, drop, ◌++◌, ◌⊎◌, Contains, Option, Some, refl, sym, ◌∙◌, ap, subst, inl, inr, arith}
use Rattle.std.proofs.lemmas.List.{length-replicate, take-append-drop}
use Rattle.std.proofs.lemmas.List.Elements.{All-contains, All-contains_itself, All-filter, Contains-append_left}
use Rattle.std.proofs.lemmas.Option.{slice_get-get_or}
use Rattle.zarrs_subset.proofs.Positions.{positions_in}
use Rattle.zarrs_engine_calls.specs.Refusals.{Refusal}
use Rattle.zarrs_engine_calls.proofs.Contents.{index_list, one_key}
use Rattle.std.specs.FinMap as map
use Rattle.std.specs.List.{filter, list_any}
use Rattle.std.specs.Str.{bytes_eq}
use Rattle.std.proofs.lemmas.Bool.{cases_Bool, false≢true}
use Rattle.zarrs_subset.specs.Regions.{box_at_origin, positions}
use Rattle.zarrs_chunk_grid.specs.Grids.{Grid, index_at, is_covered}
use Rattle.zarrs_keys.specs.Keys.{IsIndexList}
use Rattle.zarrs_storage.specs.Store.{StoreState}
use Rattle.zarrs_engine_calls.specs.Layout.{Layout, IsLawful}
use Rattle.zarrs_engine_calls.specs.Content.{value_at, content}
use Rattle.zarrs_engine_calls.specs.Changes.{Makes}
use Rattle.zarrs_engine_calls.specs.Cuts.{Cuts, cut_chunks, is_below, is_cut, is_cut_away}
use Rattle.zarrs_engine_calls.specs.Fronts.{Front, is_in_chunks}
use Rattle.zarrs_engine_calls.specs.Acts.{resize}
use Rattle.zarrs_engine_calls.specs.Outcome as outcome
use Rattle.zarrs_engine_calls.specs.Outcome.{Outcome}
use Rattle.zarrs_engine_calls.specs.Step.{ActOutcome}
use Rattle.zarrs_engine_calls.specs.Laws.{AcceptedShapeChanges, RefusedShapeChanges, ShapeChangesKeepOutside}
use Rattle.zarrs_engine_calls.proofs.Loops.{any_among, among_any}

-- an accepted one
pub accepted_change : AcceptedShapeChanges
accepted_change layout keep wanted old new h = record { shape = h.shape; cells = h.does.1.updates; makes = h.does.1.front.makes }

pub and_left : (a b : Bool) → a && b ≡ true → a ≡ true
and_left true b e = refl
and_left false b e = absurd (cc)

pub and_right : (a b : Bool) → a && b ≡ true → b ≡ true
and_right true b e = e
and_right false b e = absurd (cc)

pub and_both : (a b : Bool) → a ≡ true → b ≡ true → a && b ≡ true
and_both a b e f = ap (λ x. x && b) e ∙ f

-- whether a position lies in one of these chunks, as a Bool
pub in_chunks : (layout : Layout) (indices : List (List ℕ)) (position : List ℕ) → is_covered layout.grid position ≡ true → Contains indices (index_at layout.grid position) → is_in_chunks layout indices position ≡ true
in_chunks layout indices position covered among = elim (cases_Bool (list_any (bytes_eq (index_at layout.grid position)) indices)) [
  | inl any ↦ and_both (is_covered layout.grid position) (list_any (bytes_eq (index_at layout.grid position)) indices) covered any
  | inr none ↦ absurd (among_any indices (index_at layout.grid position) none among)
]

-- what a cut of these chunks leaves at a position
pub cut_cells : (layout : Layout) (keep : Bool) (wanted : List ℕ) (indices : List (List ℕ)) (old new : StoreState) → Cuts layout keep wanted indices old new → (position : List ℕ)
    → content layout (value_at new) position ≡ cond (is_in_chunks layout indices position && not (is_below wanted position)) (Some layout.fill) (content layout (value_at old) position)
cut_cells layout keep wanted indices old new c position =
    let here = is_in_chunks layout indices position in
    let f = λ (b : Bool). cond b (Some layout.fill) (content layout (value_at old) position) in
    elim (cases_Bool (is_in_chunks layout indices position)) [
      | inr out ↦
          c.outside position (λ covered among past. false≢true (sym out ∙ in_chunks layout indices position covered among))
          ∙ sym (ap (λ b. f (b && not (is_below wanted position))) out)
      | inl hit ↦ elim (cases_Bool (is_below wanted position)) [
        | inl below ↦
            c.outside position (λ covered among past. false≢true (sym past ∙ below))
            ∙ sym (ap (λ b. f (b && not (is_below wanted position))) hit ∙ ap (λ b. f (not b)) below)
        | inr past ↦
            c.inside position (and_left (is_covered layout.grid position) (list_any (bytes_eq (index_at layout.grid position)) indices) hit)
            (any_among indices (index_at layout.grid position) (and_right (is_covered layout.grid position) (list_any (bytes_eq (index_at layout.grid position)) indices) hit)) past
            ∙ sym (ap (λ b. f (b && not (is_below wanted position))) hit ∙ ap (λ b. f (not b)) past)
      ]
    ]

-- no value changed, so no cell
pub same_values : (layout : Layout) (old new : StoreState) (position : List ℕ) → new.values ≡ old.values → content layout (value_at new) position ≡ content layout (value_at old) position
same_values layout old new position same = ap (λ values. content layout (map.get values) position) same

pub in_none : (layout : Layout) (position : List ℕ) → is_in_chunks layout [] position ≡ false
in_none layout position = elim (cases_Bool (is_covered layout.grid position)) [
  | inl covered ↦ ap (λ b. b && false) covered
  | inr out ↦ ap (λ b. b && false) out
]

-- what a front of the chunks leaves
front_cells : (layout : Layout) (keep : Bool) (wanted : List ℕ) (chunks : List (List ℕ)) (done failed : ℕ) (old new : StoreState) → Front Makes (λ indices. Cuts layout keep wanted indices old new) chunks done failed old new
    → (position : List ℕ) → content layout (value_at new) position
    ≡ cond (is_in_chunks layout (take done chunks) position && not (is_below wanted position)) (Some layout.fill) (content layout (value_at old) position)
front_cells layout keep wanted chunks zero failed old new front position =
    same_values layout old new position (front.untouched refl)
    ∙ sym (ap (λ b. cond (b && not (is_below wanted position)) (Some layout.fill) (content layout (value_at old) position)) (in_none layout position))
front_cells layout keep wanted chunks (suc done) failed old new front position =
    cut_cells layout keep wanted (take (suc done) chunks) old new (front.changes (omega arith)) position

pub refused_change : RefusedShapeChanges
refused_change layout keep r wanted old new h =
    let step = h.does in
    record {
      done = step.done;
      failed = step.failed;
      within = step.front.within;
      below = step.below;
      shape = h.shape;
      cells = front_cells layout keep wanted _ step.done step.failed old.store new.store step.front;
      makes = step.front.makes;
      one = step.one;
    }

-- a chunk that is cut is one of the array as it was
pub cut_is_one : (grid : Grid) (old wanted : List ℕ) (n : ℕ) (index : List ℕ) → Contains (take n (cut_chunks grid old wanted)) index → is_below (grid.counts old) index ≡ true
cut_is_one grid old wanted n index among =
    let range = box_at_origin (grid.counts old) in
    let all = cut_chunks grid old wanted in
    let seam : take n all ++ drop n all ≡ all = take-append-drop n all in
    let cut = subst (λ chunks. Contains chunks index) seam (Contains-append_left (take n all) (drop n all) index among) in
    let listed = All-contains (Contains (positions range)) (filter (is_cut grid wanted) (positions range)) index
    (All-filter (is_cut grid wanted) (Contains (positions range)) (positions range) (All-contains_itself (positions range))) cut in
    positions_in range.start range.shape listed.0 index (length-replicate {A = ℕ} (length (grid.counts old)) 0)
    (slice_get-get_or (positions range) listed.0 index listed.1 ∙ ap Some listed.2)

-- of a front either no value changed, or some chunks are cut
abbrev SomeCut : Layout → Bool → List ℕ → List (List ℕ) → StoreState → StoreState → Type 0
SomeCut layout keep wanted chunks old new = (new.values ≡ old.values) ⊎ ((n : ℕ) × Cuts layout keep wanted (take n chunks) old new)

front_some : (layout : Layout) (keep : Bool) (wanted : List ℕ) (chunks : List (List ℕ)) (done failed : ℕ) (old new : StoreState) → Front Makes (λ indices. Cuts layout keep wanted indices old new) chunks done failed old new → SomeCut layout keep wanted chunks old new
front_some layout keep wanted chunks zero failed old new front = inl (front.untouched refl)
front_some layout keep wanted chunks (suc done) failed old new front = inr (suc done, front.changes (omega arith))

change_some : (layout : Layout) (keep : Bool) (shape : List ℕ) (first : Option Refusal) (wanted : List ℕ) (ended : Outcome) (old new : StoreState)
    → ActOutcome layout keep shape first (resize wanted) ended old new → SomeCut layout keep wanted (cut_chunks layout.grid shape wanted) old new
change_some layout keep shape first wanted outcome.done old new s = front_some layout keep wanted _ _ _ old new s.1.front
change_some layout keep shape first wanted (outcome.refused r) old new s = front_some layout keep wanted _ _ _ old new s.front
change_some layout keep shape first wanted (outcome.compacted answer) old new s = absurd s
change_some layout keep shape first wanted (outcome.cells held) old new s = absurd s
change_some layout keep shape first wanted (outcome.maybe found) old new s = absurd s

outside_chunks : (layout : Layout) → IsLawful layout → (keep : Bool) (shape wanted : List ℕ) (old new : StoreState) → SomeCut layout keep wanted (cut_chunks layout.grid shape wanted) old new
    → (index : List ℕ) → IsIndexList layout.grid.dimensions index → is_below (layout.grid.counts shape) index ≡ false → value_at new (layout.key index) ≡ value_at old (layout.key index)
outside_chunks layout lawful keep shape wanted old new (inl same) index long out = ap (λ values. map.get values (layout.key index)) same
outside_chunks layout lawful keep shape wanted old new (inr (n, c)) index long out =
    c.keys (layout.key index) (λ i among same.
    let one = one_key layout lawful index i long (index_list layout lawful i (c.boxed i among)) same in
    false≢true (sym out ∙ cut_is_one layout.grid shape wanted n index (subst (Contains (take n (cut_chunks layout.grid shape wanted))) (sym one) among)))

outside_cells : (layout : Layout) (keep : Bool) (shape wanted : List ℕ) (old new : StoreState) → SomeCut layout keep wanted (cut_chunks layout.grid shape wanted) old new
    → (position : List ℕ) → is_cut_away layout.grid shape wanted position ≡ false → content layout (value_at new) position ≡ content layout (value_at old) position
outside_cells layout keep shape wanted old new (inl same) position out = same_values layout old new position same
outside_cells layout keep shape wanted old new (inr (n, c)) position out =
    c.outside position (λ covered among past.
    let inside = cut_is_one layout.grid shape wanted n (index_at layout.grid position) among in
    false≢true (sym out ∙ and_both (is_covered layout.grid position && is_below (layout.grid.counts shape) (index_at layout.grid position)) (not (is_below wanted position))
    (and_both (is_covered layout.grid position) (is_below (layout.grid.counts shape) (index_at layout.grid position)) covered inside) (ap not past)))

pub change_kept_outside : ShapeChangesKeepOutside
change_kept_outside layout lawful keep ended wanted old new h =
    let some = change_some layout keep old.shape h.first wanted ended old.store new.store h.does in
    record {
      chunks = outside_chunks layout lawful keep old.shape wanted old.store new.store some;
      cells = outside_cells layout keep old.shape wanted old.store new.store some;
    }
