-- Each event is a Change, and so a course goes through states of which each two neighbours are one.
use Rattle.std.proofs.Common.{◌≡◌, ℕ, zero, suc, ◌≤◌, ◌&&◌, not, Bool, true, false, cond, List, [], ◌∷◌, ◌++◌, length}
use Rattle.std.proofs.Common.{take, drop, slice_get, Contains, Option, Some, None, refl, sym, ◌∙◌, ap, subst, inl, inr, arith}
use Rattle.std.specs.Prelude.{option_and_then}
use Rattle.std.specs.FinMap as map
use Rattle.std.specs.List.{list_any}
use Rattle.std.specs.Str.{bytes_eq}
use Rattle.std.proofs.lemmas.Bool.{cases_Bool, false≢true}
use Rattle.std.proofs.lemmas.List.{take-append-drop}
use Rattle.std.proofs.lemmas.List.Elements.{Contains-append_left}
use Rattle.zarrs_subset.specs.Regions.{Box, IsLong, in_box, cell_in}
use Rattle.zarrs_chunk_grid.specs.Grids.{box_at, index_at, is_covered}
use Rattle.zarrs_chunk_grid.proofs.Chunks.{box_is_there, box_covered}
use Rattle.zarrs_storage.specs.Store.{StoreState}
use Rattle.zarrs_data_type.specs.Cell.{Cell}
use Rattle.zarrs_data_type.specs.ArrayData.{ArrayData}
use Rattle.zarrs_data_type.specs.Cells.{cells}
use Rattle.zarrs_engine_calls.specs.Layout.{ArrayState, Layout, IsLawful}
use Rattle.zarrs_engine_calls.specs.Content.{value_at, content, Reads}
use Rattle.zarrs_engine_calls.proofs.LawProofs.{reads_one}
use Rattle.zarrs_engine_calls.specs.Acts.{Act, store, erase, compact, read, read_chunk, resize, shape_left}
use Rattle.zarrs_engine_calls.specs.Outcome as outcome
use Rattle.zarrs_engine_calls.specs.Outcome.{Outcome}
use Rattle.zarrs_engine_calls.specs.Refusals.{Refusal}
use Rattle.zarrs_engine_calls.specs.Changes.{ChangesKeysOf, Erases, RetrievesChunk}
use Rattle.zarrs_engine_calls.specs.Cuts.{Cuts, cut_chunks, is_below, is_cut_away}
use Rattle.zarrs_engine_calls.specs.Fronts.{Front, RefusesWrite, Takes, is_in_chunks}
use Rattle.zarrs_engine_calls.specs.declared.call.Call.{Call}
use Rattle.zarrs_engine_calls.specs.declared.call.Reply.{Reply}
use Rattle.zarrs_engine_calls.specs.Step.{ActOutcome, Run}
use Rattle.zarrs_engine_calls.specs.Events.{Event, Happens, events_of, one_event}
use Rattle.zarrs_engine_calls.specs.Laws.{EachDecodes}
use Rattle.zarrs_engine_calls.specs.Headline.{AnArrayIsOneFunction, Change, IsMadeInPart, IsOneFunction, Lists, RunsAreOneFunction, cell_at, made}
use Rattle.zarrs_engine_calls.proofs.Contents.{content_uncovered}
use Rattle.zarrs_engine_calls.proofs.Compactions.{content_stays}
use Rattle.zarrs_engine_calls.proofs.CutLaws.{and_both, and_left, and_right, cut_is_one, in_chunks, in_none, same_values}
use Rattle.zarrs_engine_calls.proofs.Loops.{any_among, put_changes}
use Rattle.zarrs_engine_calls.proofs.Regions.{act_written, each_decodes_over, event_reads_of_decoding}
use Rattle.zarrs_engine_calls.proofs.Steps.{courses_keep_decoding, runs_are_courses}

and_no : (a : Bool) → a && false ≡ false
and_no true = refl
and_no false = refl

-- a chunk of a front is one of all
pub in_front : (n : ℕ) (chunks : List (List ℕ)) (index : List ℕ) → Contains (take n chunks) index → Contains chunks index
in_front n chunks index among =
    let seam : take n chunks ++ drop n chunks ≡ chunks = take-append-drop n chunks in
    subst (λ all. Contains all index) seam (Contains-append_left (take n chunks) (drop n chunks) index among)

-- one shape and one store are one state
same_state : (old new : ArrayState) → new.shape ≡ old.shape → new.store ≡ old.store → new ≡ old
same_state old new one_shape one_store i = record { store = one_store i; shape = one_shape i }

module _ (layout : Layout) (old new : StoreState) where
  -- what some chunks leave at a position, in them and elsewhere
  pub by_chunks : (indices : List (List ℕ)) (position : List ℕ) (cell : Option Cell)
      → (is_covered layout.grid position ≡ true → Contains indices (index_at layout.grid position) → content layout (value_at new) position ≡ cell)
      → ((Contains indices (index_at layout.grid position) → ⊥) → content layout (value_at new) position ≡ content layout (value_at old) position)
      → content layout (value_at new) position ≡ cond (is_in_chunks layout indices position) cell (content layout (value_at old) position)
  by_chunks indices position cell inside outside =
      let covers = is_covered layout.grid position in
      let lists = list_any (bytes_eq (index_at layout.grid position)) indices in
      let was = content layout (value_at old) position in
      elim (cases_Bool (is_in_chunks layout indices position)) [
        | inl hit ↦
            inside (and_left covers lists hit) (any_among indices (index_at layout.grid position) (and_right covers lists hit))
            ∙ sym (ap (λ b. cond b cell was) hit)
        | inr miss ↦ elim (cases_Bool (is_covered layout.grid position)) [
          | inl covered ↦
              outside (λ among. false≢true (sym miss ∙ in_chunks layout indices position covered among))
              ∙ sym (ap (λ b. cond b cell was) miss)
          | inr uncovered ↦
              content_uncovered layout (value_at new) position uncovered ∙ sym (content_uncovered layout (value_at old) position uncovered)
              ∙ sym (ap (λ b. cond b cell was) miss)
        ]
      ]

  -- a front of chunks leaves what each list of them leaves
  module _ {calls : ℕ → ℕ → StoreState → StoreState → Type 0} (changed : List (List ℕ) → Type 0) (chunks : List (List ℕ)) where
    front_cells : (done failed : ℕ) (f : List ℕ → Option Cell)
        → ((position : List ℕ) → changed (take done chunks) → content layout (value_at new) position
        ≡ cond (is_in_chunks layout (take done chunks) position) (f position) (content layout (value_at old) position))
        → Front calls changed chunks done failed old new → (position : List ℕ) → content layout (value_at new) position
        ≡ cond (is_in_chunks layout (take done chunks) position) (f position) (content layout (value_at old) position)
    front_cells zero failed f each front position =
        same_values layout old new position (front.untouched refl)
        ∙ sym (ap (λ b. cond b (f position) (content layout (value_at old) position)) (in_none layout position))
    front_cells (suc done) failed f each front position = each position (front.changes (omega arith))

    pub front_keys : (done failed : ℕ) → (changed (take done chunks) → ChangesKeysOf layout (take done chunks) old new)
        → Front calls changed chunks done failed old new → ChangesKeysOf layout (take done chunks) old new
    front_keys zero failed each front = λ key apart. ap (λ values. map.get values key) (front.untouched refl)
    front_keys (suc done) failed each front = each (front.changes (omega arith))

module _ (layout : Layout) (lawful : IsLawful layout) (keep : Bool) (shape : List ℕ) (old new : StoreState) where
  was : List ℕ → Option Cell
  was = content layout (value_at old)

  now : List ℕ → Option Cell
  now = content layout (value_at new)

  -- chunks that took their part of a store
  taken : (region : Box) (held : ArrayData) (chunks indices : List (List ℕ)) → Takes layout keep region held indices old new → (position : List ℕ)
      → content layout (value_at new) position ≡ cond (is_in_chunks layout indices position)
      (made layout shape (store region held chunks) (content layout (value_at old)) position) (content layout (value_at old) position)
  taken region held chunks indices t position =
      let put = option_and_then (λ given. cell_in region given position) (cells layout.kind held) in
      let is : put ≡ cell_in region t.given position = ap (λ o. option_and_then (λ given. cell_in region given position) o) t.are_cells in
      let before = content layout (value_at old) position in
      by_chunks layout old new indices position (cond (in_box region position) put before)
      (λ covered among. elim (cases_Bool (in_box region position)) [
        | inl holds ↦ t.stores.updates.inside position holds among ∙ sym (ap (λ b. cond b put before) holds ∙ is)
        | inr out ↦ t.stores.updates.outside position (λ holds m. false≢true (sym out ∙ holds)) ∙ sym (ap (λ b. cond b put before) out)
      ])
      (λ apart. t.stores.updates.outside position (λ holds among. apart among))

  -- chunks of an erasure that are gone
  gone : (n : ℕ) (chunks : List (List ℕ)) → Erases layout (take n chunks) old new → (position : List ℕ)
      → content layout (value_at new) position ≡ cond (is_in_chunks layout (take n chunks) position)
      (made layout shape (erase chunks) (content layout (value_at old)) position) (content layout (value_at old) position)
  gone n chunks e position =
      let before = content layout (value_at old) position in
      by_chunks layout old new (take n chunks) position (cond (is_in_chunks layout chunks position) (Some layout.fill) before)
      (λ covered among.
      e.inside position covered among
      ∙ sym (ap (λ b. cond b (Some layout.fill) before) (in_chunks layout chunks position covered (in_front n chunks (index_at layout.grid position) among))))
      (λ apart. e.outside position (λ covered among. apart among))

  -- chunks that are cut
  cut : (n : ℕ) (wanted : List ℕ) → Cuts layout keep wanted (take n (cut_chunks layout.grid shape wanted)) old new → (position : List ℕ)
      → content layout (value_at new) position ≡ cond (is_in_chunks layout (take n (cut_chunks layout.grid shape wanted)) position)
      (made layout shape (resize wanted) (content layout (value_at old)) position) (content layout (value_at old) position)
  cut n wanted c position =
      let before = content layout (value_at old) position in
      let covers = is_covered layout.grid position in
      let below = is_below (layout.grid.counts shape) (index_at layout.grid position) in
      by_chunks layout old new (take n (cut_chunks layout.grid shape wanted)) position (cond (is_cut_away layout.grid shape wanted position) (Some layout.fill) before)
      (λ covered among. elim (cases_Bool (is_below wanted position)) [
        | inl kept ↦
            c.outside position (λ k m past. false≢true (sym past ∙ kept))
            ∙ sym (ap (λ b. cond (covers && below && not b) (Some layout.fill) before) kept ∙ ap (λ b. cond b (Some layout.fill) before) (and_no (covers && below)))
        | inr past ↦
            let away : is_cut_away layout.grid shape wanted position ≡ true =
            and_both (covers && below) (not (is_below wanted position))
            (and_both covers below covered (cut_is_one layout.grid shape wanted n (index_at layout.grid position) among)) (ap not past) in
            c.inside position covered among past ∙ sym (ap (λ b. cond b (Some layout.fill) before) away)
      ])
      (λ apart. c.outside position (λ covered among past. apart among))

module _ (layout : Layout) (lawful : IsLawful layout) (keep : Bool) (old new : ArrayState) where
  -- a refused write
  pub in_part : {calls : ℕ → ℕ → StoreState → StoreState → Type 0} → (act : Act) (chunks : List (List ℕ)) (changed : List (List ℕ) → Type 0) (early : Type 0) (late : List ℕ → ℕ → Type 0)
      → (s : RefusesWrite calls changed chunks early late old.store new.store)
      → ((position : List ℕ) → changed (take s.done chunks) → cell_at layout new position
      ≡ cond (is_in_chunks layout (take s.done chunks) position) (made layout old.shape act (cell_at layout old) position) (cell_at layout old position))
      → (changed (take s.done chunks) → ChangesKeysOf layout (take s.done chunks) old.store new.store)
      → IsMadeInPart layout act chunks old new
  in_part act chunks changed early late s cells keys = record {
    done = s.done;
    left = s.below;
    cells = front_cells layout old.store new.store changed chunks s.done s.failed (made layout old.shape act (cell_at layout old)) cells s.front;
    keys = front_keys layout old.store new.store changed chunks s.done s.failed keys s.front;
  }

  -- a call that changed nothing
  nothing : (act : Act) → new ≡ old → IsMadeInPart layout act [] old new
  nothing act is = record {
    done = 0;
    left = λ some. absurd (omega arith);
    cells = λ position.
        ap (λ (s : ArrayState). cell_at layout s position) is
        ∙ sym (ap (λ b. cond b (made layout old.shape act (cell_at layout old) position) (cell_at layout old position)) (in_none layout position));
    keys = λ key apart. ap (λ (s : ArrayState). value_at s.store key) is;
  }

  -- a read of a whole chunk
  lists_chunk : (index : List ℕ) (held : ArrayData) → RetrievesChunk layout index held old.store → Lists layout (box_at layout.grid index) held old
  lists_chunk index held r = record {
    given = r.chunk;
    are_cells = r.is_chunk;
    reads = r.reads;
    covered = λ position holds. box_covered layout.grid lawful.grid index position (box_is_there layout.grid index r.has_box) holds;
  }

  -- a read of a region
  lists_region : (region : Box) (chunks : List (List ℕ)) (held : ArrayData) → EachDecodes layout old.store
      → Happens layout keep (record { act = read region chunks; ended = outcome.cells held }) old new → Lists layout region held old
  lists_region region chunks held each h =
      let event : Event = record { act = read region chunks; ended = outcome.cells held } in
      let e = event_reads_of_decoding layout lawful keep event region held old new (record { reads = refl; answer = refl }) h (each_decodes_over layout lawful region old.store each) in
      record { given = e.0; are_cells = e.1; reads = e.2; covered = h.does.2.covered }

  pub act_change : (first : Option Refusal) (act : Act) (ended : Outcome) → EachDecodes layout old.store → new.shape ≡ shape_left act ended old.shape
      → ActOutcome layout keep old.shape first act ended old.store new.store → Change layout act ended old new
  act_change first (store region held chunks) outcome.done each shape s = (
    record {
      cells = act_written layout keep old.shape first (store region held chunks) old.store new.store s;
      keys = s.1.takes.stores.updates.keys;
    },
    (s.1.takes.given, s.1.takes.are_cells, s.1.takes.count),
  )
  act_change first (erase chunks) outcome.done each shape s = record {
    cells = act_written layout keep old.shape first (erase chunks) old.store new.store s;
    keys = s.1.erases.keys;
  }
  act_change first (resize wanted) outcome.done each shape s = record {
    cells = act_written layout keep old.shape first (resize wanted) old.store new.store s;
    keys = s.1.cuts.keys;
  }
  act_change first (compact index) (outcome.compacted true) each shape s = record {
    cells = content_stays layout lawful index old.store new.store s.1;
    keys = put_changes layout index (layout.key index) (Some s.1.less) old.store new.store refl s.1.put;
  }
  act_change first (compact index) (outcome.compacted false) each shape s = same_state old new shape s.1.same
  act_change first (read region chunks) (outcome.cells held) each shape s =
      (same_state old new shape s.0, lists_region region chunks held each (record { shape = shape; first = first; does = s }))
  act_change first (read_chunk true index) (outcome.cells held) each shape s = (same_state old new shape s.0, lists_chunk index held s.2)
  act_change first (read_chunk false index) (outcome.maybe (Some held)) each shape s = (same_state old new shape s.0, lists_chunk index held s.2.0, s.2.1)
  act_change first (read_chunk false index) (outcome.maybe None) each shape s = (same_state old new shape s.0, s.2.1)
  act_change first (store region held chunks) (outcome.refused r) each shape s =
      in_part (store region held chunks) chunks _ _ _ s
      (λ position t. taken layout lawful keep old.shape old.store new.store region held chunks (take s.done chunks) t position)
      (λ t. t.stores.updates.keys)
  act_change first (erase chunks) (outcome.refused r) each shape s =
      in_part (erase chunks) chunks _ _ _ s (λ position e. gone layout lawful keep old.shape old.store new.store s.done chunks e position) (λ e. e.keys)
  act_change first (resize wanted) (outcome.refused r) each shape s =
      in_part (resize wanted) (cut_chunks layout.grid old.shape wanted) _ _ _ s (λ position c. cut layout lawful keep old.shape old.store new.store s.done wanted c position) (λ c. c.keys)
  act_change first (compact index) (outcome.refused r) each shape s = in_part (compact index) (index ∷ []) _ _ _ s (λ position none. absurd none) (λ none. absurd none)
  act_change first (read region chunks) (outcome.refused r) each shape s = nothing (read region chunks) (same_state old new shape s.0)
  act_change first (read_chunk true index) (outcome.refused r) each shape s = nothing (read_chunk true index) (same_state old new shape s.0)
  act_change first (read_chunk false index) (outcome.refused r) each shape s = nothing (read_chunk false index) (same_state old new shape s.0)
  act_change first act ended each shape s = absurd s

-- the states from here on
abbrev from_here : ArrayState → (ℕ → ArrayState) → ℕ → ArrayState
from_here old later zero = old
from_here old later (suc k) = later k

-- each two neighbours, with one more state before them
next_each : (P : Event → ArrayState → ArrayState → Type 0) (event : Event) (events : List Event) (old mid : ArrayState) (later : ℕ → ArrayState)
    → later 0 ≡ mid → P event old mid
    → ((k : ℕ) (one : Event) → slice_get events k ≡ Some one → P one (later k) (later (suc k)))
    → (k : ℕ) (one : Event) → slice_get (event ∷ events) k ≡ Some one → P one (from_here old later k) (from_here old later (suc k))
next_each P event events old mid later first here each zero one is =
    let same : event ≡ one = cc in
    subst (λ (e : Event). P e old (later 0)) same (subst (P event old) (sym first) here)
next_each P event events old mid later first here each (suc k) one is = each k one is

next_decodes : (layout : Layout) (n : ℕ) (old : ArrayState) (later : ℕ → ArrayState) → EachDecodes layout old.store
    → ((k : ℕ) → k ≤ n → EachDecodes layout (later k).store)
    → (k : ℕ) → k ≤ suc n → EachDecodes layout (from_here old later k).store
next_decodes layout n old later first each zero below = first
next_decodes layout n old later first each (suc k) below = each k (omega arith)

-- no event happened
pub none_happened : (layout : Layout) (old new : ArrayState) → EachDecodes layout old.store → new ≡ old → IsOneFunction layout [] old new
none_happened layout old new each same = record {
  at = λ k. old;
  first = refl;
  last = sym same;
  changes = λ k event is. absurd (cc);
  shapes = λ k event is. absurd (cc);
  decodes = λ k below. each;
}

-- one more event before the others
pub one_more : (layout : Layout) (event : Event) (events : List Event) (old mid new : ArrayState) → EachDecodes layout old.store
    → Change layout event.act event.ended old mid → mid.shape ≡ shape_left event.act event.ended old.shape
    → IsOneFunction layout events mid new → IsOneFunction layout (event ∷ events) old new
one_more layout event events old mid new each change shape rest = record {
  at = from_here old rest.at;
  first = refl;
  last = rest.last;
  changes = next_each (λ one a b. Change layout one.act one.ended a b) event events old mid rest.at rest.first change rest.changes;
  shapes = next_each (λ one a b. b.shape ≡ shape_left one.act one.ended a.shape) event events old mid rest.at rest.first shape rest.shapes;
  decodes = next_decodes layout (length events) old rest.at each rest.decodes;
}

pub one_function : AnArrayIsOneFunction
one_function layout lawful keep [] old new each course = none_happened layout old new each course
one_function layout lawful keep (event ∷ events) old new each course =
    let mid = course.0 in
    let decodes = courses_keep_decoding layout lawful keep (event ∷ []) old mid (one_event layout keep old mid event course.1) each in
    let change = act_change layout lawful keep old mid course.1.first event.act event.ended each course.1.shape course.1.does in
    one_more layout event events old mid new each change course.1.shape (one_function layout lawful keep events mid new decodes course.2)

-- a run has one reply for each call
one_each : (layout : Layout) (keep : Bool) (calls : List Call) (replies : List Reply) (old new : ArrayState) → Run layout keep calls replies old new → length replies ≡ length calls
one_each layout keep [] [] old new run = refl
one_each layout keep (call ∷ calls) (reply ∷ replies) old new run = ap suc (one_each layout keep calls replies run.0 new run.2)
one_each layout keep [] (reply ∷ replies) old new run = absurd run
one_each layout keep (call ∷ calls) [] old new run = absurd run

pub runs_one : RunsAreOneFunction
runs_one layout lawful keep calls replies old new each run = record {
  one_each = one_each layout keep calls replies old new run;
  function = one_function layout lawful keep (events_of layout calls replies) old new each (runs_are_courses layout keep calls replies old new run);
}

-- so each chunk decodes in the end
pub function_decodes : (layout : Layout) (events : List Event) (old new : ArrayState) → IsOneFunction layout events old new → EachDecodes layout new.store
function_decodes layout events old new o = subst (λ (s : ArrayState). EachDecodes layout s.store) o.last (o.decodes (length events) (omega arith))

-- ---- what the theorem gives by itself: a read after a store of its region returns the stored cells

module _ (layout : Layout) (events : List Event) (old new : ArrayState) (o : IsOneFunction layout events old new) where
  pub read_back : (k : ℕ) (region : Box) (held got : ArrayData) (chunks others : List (List ℕ)) → IsLong region
      → slice_get events k ≡ Some (record { act = store region held chunks; ended = outcome.done })
      → slice_get events (suc k) ≡ Some (record { act = read region others; ended = outcome.cells got })
      → cells layout.kind got ≡ cells layout.kind held
  read_back k region held got chunks others long stores reads =
      let s = o.changes k _ stores in
      let r = (o.changes (suc k) _ reads).1 in
      let given = s.1.0 in
      let f = cell_at layout (o.at (suc k)) in
      let was = cell_at layout (o.at k) in
      let mine : Reads f region given = record {
        count = s.1.2;
        each = λ position holds.
            s.0.cells position
            ∙ ap (λ b. cond b (option_and_then (λ given. cell_in region given position) (cells layout.kind held)) (was position)) holds
            ∙ ap (λ (d : Option (List Cell)). option_and_then (λ given. cell_in region given position) d) s.1.1;
      } in
      r.are_cells ∙ ap Some (reads_one f f region r.given given long (λ position holds. refl) r.reads mine) ∙ sym s.1.1
