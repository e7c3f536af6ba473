-- Events and courses, steps and runs, by the kinds of acts.
use Rattle.std.proofs.Common.{◌≡◌, ◌+◌, ℕ, Bool, true, false, List, [], ◌∷◌, Option, Some, refl, sym, ◌∙◌, ap, subst, arith}
use Rattle.zarrs_subset.specs.Regions.{Box}
use Rattle.zarrs_chunk_grid.specs.Grids.{box_at, has_box}
use Rattle.zarrs_storage.specs.Store.{StoreState, KeepsReach}
use Rattle.zarrs_storage.proofs.ValuesLemmas.{reach_on}
use Rattle.zarrs_data_type.specs.Cell.{Cell}
use Rattle.zarrs_data_type.specs.ArrayData.{ArrayData}
use Rattle.zarrs_engine_calls.specs.Layout.{Layout, IsLawful, ArrayState}
use Rattle.zarrs_engine_calls.specs.Content.{value_at, decoded_cells}
use Rattle.zarrs_engine_calls.specs.Refusals.{Refusal}
use Rattle.zarrs_engine_calls.specs.Changes.{Erases, Makes}
use Rattle.zarrs_engine_calls.specs.Canon.{IsCanonical, IsNoChunkKey}
use Rattle.zarrs_engine_calls.proofs.LawProofs.{content_is_bytes, empty_is_canonical}
use Rattle.zarrs_engine_calls.proofs.RefusalLemmas.{makes_none, same_reach}
use Rattle.zarrs_engine_calls.specs.declared.call.Call.{Call}
use Rattle.zarrs_engine_calls.specs.declared.call.Reply.{Reply}
use Rattle.zarrs_engine_calls.specs.Acts.{Act, store, erase, compact, read, read_chunk, resize}
use Rattle.zarrs_engine_calls.specs.ArgumentRefusals.{argument_refusal}
use Rattle.zarrs_engine_calls.specs.Compactions.{Compacts, CompactsChunk}
use Rattle.zarrs_engine_calls.specs.Cuts.{Cuts}
use Rattle.zarrs_engine_calls.specs.Fronts.{Front, RefusesWrite, Takes}
use Rattle.zarrs_engine_calls.specs.Outcome as outcome
use Rattle.zarrs_engine_calls.specs.Outcome.{Outcome, outcome_of}
use Rattle.zarrs_engine_calls.specs.Step.{ActOutcome, ActStep, Run, Step}
use Rattle.zarrs_engine_calls.specs.Events.{Course, Event, event_of, events_of, one_event}
use Rattle.zarrs_engine_calls.specs.Laws.{EachDecodes, StepsAreEvents}
use Rattle.zarrs_engine_calls.specs.Laws.{EqualCountsAgree, CountsWrites, chunks_written}
use Rattle.zarrs_engine_calls.specs.Laws.{WritesKeep, WritesKeepCanon, WritesKeepDecoding}
use Rattle.zarrs_engine_calls.specs.Laws.{RunsAreCourses, CoursesKeepCanon, CoursesKeepDecoding, CoursesKeepReach, CoursesKeepOtherKeys}
use Rattle.zarrs_engine_calls.specs.Laws.{CoursesAgree, CourseCountsAgree, EventsCount}
use Rattle.zarrs_engine_calls.proofs.Compactions.{canonical_stays, decoding_stays}
use Rattle.zarrs_engine_calls.proofs.Shapes.{front_keeps, stores_keep_canon, stores_keep_decoding, erases_keep_canon, erases_keep_decoding}
use Rattle.zarrs_engine_calls.proofs.Shapes.{cuts_keep_canon, cuts_keep_decoding}
use Rattle.zarrs_engine_calls.proofs.Contents.{index_list}

-- each chunk that stands in this look-up decodes
abbrev pub AllDecode : Layout → (List ℕ → Option (List ℕ)) → Type 0
AllDecode layout stored = (index encoded : List ℕ) → has_box layout.grid index ≡ true → stored (layout.key index) ≡ Some encoded
    → (cells : List Cell) × (decoded_cells layout (box_at layout.grid index) encoded ≡ Some cells)

-- A property of the look-up that each shape of a write keeps is kept by each act.
module _ (layout : Layout) (keep : Bool) (P : (List ℕ → Option (List ℕ)) → Type 0)
    (stores : (region : Box) (held : ArrayData) (indices : List (List ℕ)) (old new : StoreState) → Takes layout keep region held indices old new → P (value_at old) → P (value_at new))
    (erases : (indices : List (List ℕ)) (old new : StoreState) → Erases layout indices old new → P (value_at old) → P (value_at new))
    (cuts : (shape : List ℕ) (indices : List (List ℕ)) (old new : StoreState) → Cuts layout keep shape indices old new → P (value_at old) → P (value_at new))
    (compacts : (index : List ℕ) (old new : StoreState) → Compacts layout index old new → P (value_at old) → P (value_at new)) where
  same_keeps : (old new : StoreState) → new ≡ old → P (value_at old) → P (value_at new)
  same_keeps old new is = subst (λ (s : StoreState). P (value_at s)) (sym is)

  compaction_keeps : (index : List ℕ) (answer : Bool) (old new : StoreState) → CompactsChunk layout index answer old new → P (value_at old) → P (value_at new)
  compaction_keeps index true old new c = compacts index old new c
  compaction_keeps index false old new c = same_keeps old new c.same

  pub outcome_keeps : (shape : List ℕ) (first : Option Refusal) (act : Act) (ended : Outcome) (old new : StoreState)
      → ActOutcome layout keep shape first act ended old new → P (value_at old) → P (value_at new)
  outcome_keeps shape first (store region held chunks) outcome.done old new s = front_keeps _ chunks _ _ old new P (λ indices. stores region held indices old new) s.1.front
  outcome_keeps shape first (store region held chunks) (outcome.refused r) old new s = front_keeps _ chunks _ _ old new P (λ indices. stores region held indices old new) s.front
  outcome_keeps shape first (erase chunks) outcome.done old new s = front_keeps _ chunks _ _ old new P (λ indices. erases indices old new) s.1.front
  outcome_keeps shape first (erase chunks) (outcome.refused r) old new s = front_keeps _ chunks _ _ old new P (λ indices. erases indices old new) s.front
  outcome_keeps shape first (compact index) (outcome.compacted answer) old new s = compaction_keeps index answer old new s.1
  outcome_keeps shape first (compact index) (outcome.refused r) old new s = front_keeps _ _ _ _ old new P (λ indices none. absurd none) s.front
  outcome_keeps shape first (read region chunks) (outcome.cells held) old new s = same_keeps old new s.0
  outcome_keeps shape first (read region chunks) (outcome.refused r) old new s = same_keeps old new s.0
  outcome_keeps shape first (read_chunk true index) (outcome.cells held) old new s = same_keeps old new s.0
  outcome_keeps shape first (read_chunk true index) (outcome.refused r) old new s = same_keeps old new s.0
  outcome_keeps shape first (read_chunk false index) (outcome.maybe found) old new s = same_keeps old new s.0
  outcome_keeps shape first (read_chunk false index) (outcome.refused r) old new s = same_keeps old new s.0
  outcome_keeps shape first (resize wanted) outcome.done old new s = front_keeps _ _ _ _ old new P (λ indices. cuts wanted indices old new) s.1.front
  outcome_keeps shape first (resize wanted) (outcome.refused r) old new s = front_keeps _ _ _ _ old new P (λ indices. cuts wanted indices old new) s.front
  outcome_keeps shape first act ended old new s = λ p. absurd s

  pub act_keeps : (shape : List ℕ) (first : Option Refusal) (act : Act) (reply : Reply) (old new : StoreState)
      → ActStep layout keep shape first act reply old new → P (value_at old) → P (value_at new)
  act_keeps shape first act reply = outcome_keeps shape first act (outcome_of reply)

  -- and by each course
  pub course_keeps : (events : List Event) (old new : ArrayState) → Course layout keep events old new → P (value_at old.store) → P (value_at new.store)
  course_keeps [] old new r p = subst (λ (s : ArrayState). P (value_at s.store)) (sym r) p
  course_keeps (event ∷ events) old new r p =
      course_keeps events r.0 new r.2 (outcome_keeps old.shape r.1.first event.act event.ended old.store r.0.store r.1.does p)

-- ---- courses

canon_stays : (layout : Layout) → IsLawful layout → (events : List Event) (old new : ArrayState)
    → Course layout false events old new → IsCanonical layout (value_at old.store) → IsCanonical layout (value_at new.store)
canon_stays layout lawful =
    course_keeps layout false (IsCanonical layout)
    (λ region held indices a b t. stores_keep_canon layout lawful region t.given indices a b t.stores)
    (λ indices a b e. erases_keep_canon layout lawful indices a b e)
    (λ shape indices a b c. cuts_keep_canon layout lawful shape indices a b c)
    (λ index a b c canon. absurd (canonical_stays layout lawful index a b canon c))

pub courses_keep_canon : CoursesKeepCanon
courses_keep_canon layout lawful keep events old new course off =
    canon_stays layout lawful events old new (subst (λ (b : Bool). Course layout b events old new) off course)

pub courses_keep_decoding : CoursesKeepDecoding
courses_keep_decoding layout lawful keep =
    course_keeps layout keep (AllDecode layout)
    (λ region held indices a b t. stores_keep_decoding layout lawful region t.given indices a b keep t.stores)
    (λ indices a b e. erases_keep_decoding layout lawful indices a b e)
    (λ shape indices a b c. cuts_keep_decoding layout lawful shape indices a b keep c)
    (λ index a b c. decoding_stays layout lawful index a b c)

pub courses_keep_other_keys : CoursesKeepOtherKeys
courses_keep_other_keys layout lawful keep events old new course key apart =
    course_keeps layout keep (λ stored. stored key ≡ value_at old.store key)
    (λ region held indices a b t same. t.stores.updates.keys key (λ index among. apart index (index_list layout lawful index (t.stores.updates.boxed index among))) ∙ same)
    (λ indices a b e same. e.keys key (λ index among. apart index (e.long index among)) ∙ same)
    (λ shape indices a b c same. c.keys key (λ index among. apart index (index_list layout lawful index (c.boxed index among))) ∙ same)
    (λ index a b c same. c.put.others key (apart index (index_list layout lawful index c.boxed)) ∙ same)
    events old new course refl

pub courses_agree : CoursesAgree
courses_agree layout lawful a b p q =
    content_is_bytes layout lawful a.store b.store
    (canon_stays layout lawful p.0 p.1 a p.3 (empty_is_canonical layout lawful p.1.store p.2))
    (canon_stays layout lawful q.0 q.1 b q.3 (empty_is_canonical layout lawful q.1.store q.2))

kept_reach : (old new : StoreState) → new ≡ old → KeepsReach old new
kept_reach old new is = subst (KeepsReach old) (sym is) (same_reach old)

outcome_reach : (layout : Layout) (keep : Bool) (shape : List ℕ) (first : Option Refusal) (act : Act) (ended : Outcome) (old new : StoreState)
    → ActOutcome layout keep shape first act ended old new → KeepsReach old new
outcome_reach layout keep shape first (store region held chunks) outcome.done old new s = s.1.front.makes.reach
outcome_reach layout keep shape first (store region held chunks) (outcome.refused r) old new s = s.front.makes.reach
outcome_reach layout keep shape first (erase chunks) outcome.done old new s = s.1.front.makes.reach
outcome_reach layout keep shape first (erase chunks) (outcome.refused r) old new s = s.front.makes.reach
outcome_reach layout keep shape first (compact index) (outcome.compacted true) old new s = s.1.put.makes.reach
outcome_reach layout keep shape first (compact index) (outcome.compacted false) old new s = kept_reach old new s.1.same
outcome_reach layout keep shape first (compact index) (outcome.refused r) old new s = s.front.makes.reach
outcome_reach layout keep shape first (read region chunks) (outcome.cells held) old new s = kept_reach old new s.0
outcome_reach layout keep shape first (read region chunks) (outcome.refused r) old new s = kept_reach old new s.0
outcome_reach layout keep shape first (read_chunk true index) (outcome.cells held) old new s = kept_reach old new s.0
outcome_reach layout keep shape first (read_chunk true index) (outcome.refused r) old new s = kept_reach old new s.0
outcome_reach layout keep shape first (read_chunk false index) (outcome.maybe found) old new s = kept_reach old new s.0
outcome_reach layout keep shape first (read_chunk false index) (outcome.refused r) old new s = kept_reach old new s.0
outcome_reach layout keep shape first (resize wanted) outcome.done old new s = s.1.front.makes.reach
outcome_reach layout keep shape first (resize wanted) (outcome.refused r) old new s = s.front.makes.reach
outcome_reach layout keep shape first act ended old new s = absurd s

pub courses_keep_reach : CoursesKeepReach
courses_keep_reach layout keep [] old new r = kept_reach old.store new.store (ap (λ (s : ArrayState). s.store) r)
courses_keep_reach layout keep (event ∷ events) old new r =
    reach_on old.store r.0.store new.store
    (outcome_reach layout keep old.shape r.1.first event.act event.ended old.store r.0.store r.1.does)
    (courses_keep_reach layout keep events r.0 new r.2)

-- How many writing calls of an act were accepted: none only where no value changed.
record Counts (old new : StoreState) : Type 0 where
  accepted : ℕ
  is : new.calls + old.failures ≡ old.calls + new.failures + accepted
  none : accepted ≡ 0 → new.values ≡ old.values

front_counts : (changed : List (List ℕ) → Type 0) (chunks : List (List ℕ)) (done failed : ℕ) (old new : StoreState) → Front Makes changed chunks done failed old new → Counts old new
front_counts changed chunks done failed old new f = record {
  accepted = done;
  is = let a = f.makes.calls in let b = f.makes.failures in omega arith;
  none = f.untouched;
}

same_counts : (old new : StoreState) → new ≡ old → Counts old new
same_counts old new is = subst (Counts old) (sym is) (record { accepted = 0; is = omega arith; none = λ e. refl })

put_counts : (old new : StoreState) → Makes 1 0 old new → Counts old new
put_counts old new m = record { accepted = 1; is = let a = m.calls in let b = m.failures in omega arith; none = λ zero. absurd (omega arith) }

outcome_counts : (layout : Layout) (keep : Bool) (shape : List ℕ) (first : Option Refusal) (act : Act) (ended : Outcome) (old new : StoreState)
    → ActOutcome layout keep shape first act ended old new → Counts old new
outcome_counts layout keep shape first (store region held chunks) outcome.done old new s = front_counts _ chunks _ _ old new s.1.front
outcome_counts layout keep shape first (store region held chunks) (outcome.refused r) old new s = front_counts _ chunks _ _ old new s.front
outcome_counts layout keep shape first (erase chunks) outcome.done old new s = front_counts _ chunks _ _ old new s.1.front
outcome_counts layout keep shape first (erase chunks) (outcome.refused r) old new s = front_counts _ chunks _ _ old new s.front
outcome_counts layout keep shape first (compact index) (outcome.compacted true) old new s = put_counts old new s.1.put.makes
outcome_counts layout keep shape first (compact index) (outcome.compacted false) old new s = same_counts old new s.1.same
outcome_counts layout keep shape first (compact index) (outcome.refused r) old new s = front_counts _ _ _ _ old new s.front
outcome_counts layout keep shape first (read region chunks) (outcome.cells held) old new s = same_counts old new s.0
outcome_counts layout keep shape first (read region chunks) (outcome.refused r) old new s = same_counts old new s.0
outcome_counts layout keep shape first (read_chunk true index) (outcome.cells held) old new s = same_counts old new s.0
outcome_counts layout keep shape first (read_chunk true index) (outcome.refused r) old new s = same_counts old new s.0
outcome_counts layout keep shape first (read_chunk false index) (outcome.maybe found) old new s = same_counts old new s.0
outcome_counts layout keep shape first (read_chunk false index) (outcome.refused r) old new s = same_counts old new s.0
outcome_counts layout keep shape first (resize wanted) outcome.done old new s = front_counts _ _ _ _ old new s.1.front
outcome_counts layout keep shape first (resize wanted) (outcome.refused r) old new s = front_counts _ _ _ _ old new s.front
outcome_counts layout keep shape first act ended old new s = absurd s

course_counts : (layout : Layout) (keep : Bool) (events : List Event) (old new : ArrayState) → Course layout keep events old new → Counts old.store new.store
course_counts layout keep [] old new r = same_counts old.store new.store (ap (λ (s : ArrayState). s.store) r)
course_counts layout keep (event ∷ events) old new r =
    let a = outcome_counts layout keep old.shape r.1.first event.act event.ended old.store r.0.store r.1.does in
    let b = course_counts layout keep events r.0 new r.2 in
    record {
      accepted = a.accepted + b.accepted;
      is = let x = a.is in let y = b.is in omega arith;
      none = λ zero. b.none (omega arith) ∙ a.none (omega arith);
    }

pub course_counts_agree : CourseCountsAgree
course_counts_agree layout keep events old new r same =
    let c = course_counts layout keep events old new r in
    c.none (let x = c.is in omega arith)

-- each contract of a writing call keeps what each shape of a write keeps
module _ (layout : Layout) (keep : Bool) (P : (List ℕ → Option (List ℕ)) → Type 0)
    (stores : (region : Box) (held : ArrayData) (indices : List (List ℕ)) (old new : StoreState) → Takes layout keep region held indices old new → P (value_at old) → P (value_at new))
    (erases : (indices : List (List ℕ)) (old new : StoreState) → Erases layout indices old new → P (value_at old) → P (value_at new))
    (cuts : (shape : List ℕ) (indices : List (List ℕ)) (old new : StoreState) → Cuts layout keep shape indices old new → P (value_at old) → P (value_at new))
    (compacts : (index : List ℕ) (old new : StoreState) → Compacts layout index old new → P (value_at old) → P (value_at new)) where
  writes_keep : WritesKeep layout keep (λ state. P (value_at state))
  writes_keep = record {
    stored = λ region held chunks old new s. front_keeps _ chunks _ _ old new P (λ indices. stores region held indices old new) s.front;
    store_refused = λ first region held chunks r old new s. front_keeps _ chunks _ _ old new P (λ indices. stores region held indices old new) s.front;
    erased = λ chunks old new s. front_keeps _ chunks _ _ old new P (λ indices. erases indices old new) s.front;
    erase_refused = λ first chunks r old new s. front_keeps _ chunks _ _ old new P (λ indices. erases indices old new) s.front;
    cut = λ shape wanted old new s. front_keeps _ _ _ _ old new P (λ indices. cuts wanted indices old new) s.front;
    compacted = λ index answer old new s. compaction_keeps layout keep P stores erases cuts compacts index answer old new s;
    compaction_refused = λ first index r old new s. front_keeps _ _ _ _ old new P (λ indices none. absurd none) s.front;
    cut_refused = λ shape first wanted r old new s. front_keeps _ _ _ _ old new P (λ indices. cuts wanted indices old new) s.front;
  }

pub writes_keep_canon : WritesKeepCanon
writes_keep_canon layout lawful =
    writes_keep layout false (IsCanonical layout)
    (λ region held indices a b t. stores_keep_canon layout lawful region t.given indices a b t.stores)
    (λ indices a b e. erases_keep_canon layout lawful indices a b e)
    (λ shape indices a b c. cuts_keep_canon layout lawful shape indices a b c)
    (λ index a b c canon. absurd (canonical_stays layout lawful index a b canon c))

-- with an option that keeps no empty chunks
pub writes_canon : (layout : Layout) → IsLawful layout → (keep : Bool) → keep ≡ false → WritesKeep layout keep (λ state. IsCanonical layout (value_at state))
writes_canon layout lawful keep off =
    subst (λ (b : Bool). WritesKeep layout b (λ state. IsCanonical layout (value_at state))) (sym off) (writes_keep_canon layout lawful)

pub writes_keep_decoding : WritesKeepDecoding
writes_keep_decoding layout lawful keep =
    writes_keep layout keep (AllDecode layout)
    (λ region held indices a b t. stores_keep_decoding layout lawful region t.given indices a b keep t.stores)
    (λ indices a b e. erases_keep_decoding layout lawful indices a b e)
    (λ shape indices a b c. cuts_keep_decoding layout lawful shape indices a b keep c)
    (λ index a b c. decoding_stays layout lawful index a b c)

-- how many writing calls an event makes
front_refused : (changed : List (List ℕ) → Type 0) (chunks : List (List ℕ)) (early : Type 0) (late : List ℕ → ℕ → Type 0) (r : Refusal) (old new : StoreState)
    → RefusesWrite Makes changed chunks early late old new → CountsWrites chunks (outcome.refused r) old new
front_refused changed chunks early late r old new s = (s.done, s.failed, s.front.within, s.below, s.one, s.front.makes)

none_refused : (r : Refusal) (old new : StoreState) → new ≡ old → CountsWrites [] (outcome.refused r) old new
none_refused r old new is = (0, 0, omega arith, (λ some. absurd (omega arith)), omega arith, subst (Makes 0 0 old) (sym is) (makes_none old))

outcome_calls : (layout : Layout) (keep : Bool) (shape : List ℕ) (first : Option Refusal) (act : Act) (ended : Outcome) (old new : StoreState)
    → ActOutcome layout keep shape first act ended old new → CountsWrites (chunks_written layout shape act) ended old new
outcome_calls layout keep shape first (store region held chunks) outcome.done old new s = s.1.front.makes
outcome_calls layout keep shape first (store region held chunks) (outcome.refused r) old new s = front_refused _ chunks _ _ r old new s
outcome_calls layout keep shape first (erase chunks) outcome.done old new s = s.1.front.makes
outcome_calls layout keep shape first (erase chunks) (outcome.refused r) old new s = front_refused _ chunks _ _ r old new s
outcome_calls layout keep shape first (compact index) (outcome.compacted true) old new s = s.1.put.makes
outcome_calls layout keep shape first (compact index) (outcome.compacted false) old new s = subst (Makes 0 0 old) (sym s.1.same) (makes_none old)
outcome_calls layout keep shape first (compact index) (outcome.refused r) old new s = front_refused _ _ _ _ r old new s
outcome_calls layout keep shape first (resize wanted) outcome.done old new s = s.1.front.makes
outcome_calls layout keep shape first (resize wanted) (outcome.refused r) old new s = front_refused _ _ _ _ r old new s
outcome_calls layout keep shape first (read region chunks) (outcome.cells held) old new s = subst (Makes 0 0 old) (sym s.0) (makes_none old)
outcome_calls layout keep shape first (read region chunks) (outcome.refused r) old new s = none_refused r old new s.0
outcome_calls layout keep shape first (read_chunk true index) (outcome.cells held) old new s = subst (Makes 0 0 old) (sym s.0) (makes_none old)
outcome_calls layout keep shape first (read_chunk true index) (outcome.refused r) old new s = none_refused r old new s.0
outcome_calls layout keep shape first (read_chunk false index) (outcome.maybe found) old new s = subst (Makes 0 0 old) (sym s.0) (makes_none old)
outcome_calls layout keep shape first (read_chunk false index) (outcome.refused r) old new s = none_refused r old new s.0
outcome_calls layout keep shape first act ended old new s = absurd s

pub events_count : EventsCount
events_count layout keep event old new h = outcome_calls layout keep old.shape h.first event.act event.ended old.store new.store h.does

-- ---- runs of calls

-- a step is an event
pub step_event : StepsAreEvents
step_event layout keep call reply old new s = record { shape = s.0; first = argument_refusal layout old.shape call; does = s.1 }

step_course : (layout : Layout) (keep : Bool) (call : Call) (reply : Reply) (old new : ArrayState)
    → Step layout keep call reply old new → Course layout keep (event_of layout call reply ∷ []) old new
step_course layout keep call reply old new s = one_event layout keep old new (event_of layout call reply) (step_event layout keep call reply old new s)

pub runs_are_courses : RunsAreCourses
runs_are_courses layout keep [] [] old new r = r
runs_are_courses layout keep (call ∷ calls) (reply ∷ replies) old new r =
    (r.0, step_event layout keep call reply old r.0 r.1, runs_are_courses layout keep calls replies r.0 new r.2)
runs_are_courses layout keep [] (reply ∷ replies) old new r = absurd r
runs_are_courses layout keep (call ∷ calls) [] old new r = absurd r

-- a step leaves the values at the keys of no chunk
pub step_other_keys : (layout : Layout) → IsLawful layout → (keep : Bool) (call : Call) (reply : Reply) (old new : ArrayState)
    → Step layout keep call reply old new → (key : List ℕ) → IsNoChunkKey layout key → value_at new.store key ≡ value_at old.store key
step_other_keys layout lawful keep call reply old new s =
    courses_keep_other_keys layout lawful keep (event_of layout call reply ∷ []) old new (step_course layout keep call reply old new s)

pub act_reach : (layout : Layout) (keep : Bool) (shape : List ℕ) (first : Option Refusal) (act : Act) (reply : Reply) (old new : StoreState)
    → ActStep layout keep shape first act reply old new → KeepsReach old new
act_reach layout keep shape first act reply = outcome_reach layout keep shape first act (outcome_of reply)

pub run_keeps : (layout : Layout) → IsLawful layout → (calls : List Call) (replies : List Reply) (old new : ArrayState)
    → Run layout false calls replies old new → IsCanonical layout (value_at old.store) → IsCanonical layout (value_at new.store)
run_keeps layout lawful calls replies old new r =
    canon_stays layout lawful (events_of layout calls replies) old new (runs_are_courses layout false calls replies old new r)

pub run_decodes : (layout : Layout) → IsLawful layout → (keep : Bool) (calls : List Call) (replies : List Reply) (old new : ArrayState)
    → Run layout keep calls replies old new → EachDecodes layout old.store → EachDecodes layout new.store
run_decodes layout lawful keep calls replies old new r =
    courses_keep_decoding layout lawful keep (events_of layout calls replies) old new (runs_are_courses layout keep calls replies old new r)

pub equal_counts_agree : EqualCountsAgree
equal_counts_agree layout keep calls replies old new r =
    course_counts_agree layout keep (events_of layout calls replies) old new (runs_are_courses layout keep calls replies old new r)
