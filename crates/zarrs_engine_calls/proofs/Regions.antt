-- Reads after stores, stores after reads, disjoint writes, and parts of a region.
use Rattle.std.proofs.Common.{◌≡◌, ℕ, Bool, true, false, cond, List, [], ◌∷◌, length, Option, Some, None, refl, sym}
use Rattle.std.proofs.Common.{◌∙◌, ap, subst, inl, inr, arith}
use Rattle.std.specs.Prelude.{option_and_then, ◌&&◌}
use Rattle.std.proofs.lemmas.Bool.{cases_Bool}
use Rattle.zarrs_subset.specs.Boxes.{position_count}
use Rattle.zarrs_subset.specs.Regions.{Box, IsLong, Holds, in_box, place_in, cell_in}
use Rattle.zarrs_subset.proofs.Bytes.{place_in_below}
use Rattle.zarrs_chunk_grid.specs.Grids.{box_at, index_at, is_covered}
use Rattle.zarrs_chunk_grid.proofs.Chunks.{box_is_there, box_long, box_covered}
use Rattle.zarrs_storage.specs.Store.{StoreState}
use Rattle.zarrs_data_type.specs.Cell.{Cell}
use Rattle.zarrs_data_type.specs.ArrayData.{ArrayData}
use Rattle.zarrs_data_type.specs.Cells.{cells}
use Rattle.zarrs_engine_calls.specs.Layout.{Layout, IsLawful, ArrayState}
use Rattle.zarrs_engine_calls.specs.Content.{value_at, content, decoded_cells, Reads, chunk_cell, cell_at_place}
use Rattle.zarrs_engine_calls.specs.Refusals.{Refusal}
use Rattle.zarrs_engine_calls.specs.Changes.{RetrievesChunk}
use Rattle.zarrs_engine_calls.specs.Laws.{DecodesOver, EachDecodes, HaveEqualContent}
use Rattle.zarrs_engine_calls.proofs.LawProofs.{reads_one}
use Rattle.zarrs_engine_calls.proofs.Contents.{content_covered, covered_has_box, in_chunk}
use Rattle.zarrs_engine_calls.specs.declared.call.Call.{Call}
use Rattle.zarrs_engine_calls.specs.declared.call.Reply.{Reply}
use Rattle.zarrs_engine_calls.specs.declared.call.Reply.TheVariants.{Done}
use Rattle.zarrs_engine_calls.specs.Acts.{Act, store, erase, compact, read, read_chunk, resize, act_of, shape_left}
use Rattle.zarrs_engine_calls.specs.Events.{Course, Event, Happens, event_of, events_of}
use Rattle.zarrs_engine_calls.specs.Fronts.{StoresAll}
use Rattle.zarrs_engine_calls.specs.Outcome as outcome
use Rattle.zarrs_engine_calls.specs.Outcome.{Outcome}
use Rattle.zarrs_engine_calls.specs.Reads.{ReadsKnown}
use Rattle.zarrs_engine_calls.specs.Step.{ActOutcome, RefusesCompact}
use Rattle.zarrs_engine_calls.specs.Laws.{IsQuiet, AreQuiet, AreQuietEvents, IsReadAt, IsStoreAt, ReadsAt, region_read, data_returned}
use Rattle.zarrs_engine_calls.specs.Laws.{touches, written, is_resize}
use Rattle.zarrs_engine_calls.specs.Laws.{CourseReadAfterStore, CourseStoreAfterRead, DisjointEventsAgree, EventReadsOfDecodingChunks}
use Rattle.zarrs_engine_calls.specs.Laws.{EventPartsMakeTheRegion, ReadAfterStore, StoreAfterRead, DisjointWritesAgree}
use Rattle.zarrs_engine_calls.specs.Laws.{PartsMakeTheRegion}
use Rattle.zarrs_engine_calls.proofs.Compactions.{compactions_keep_content}
use Rattle.zarrs_engine_calls.proofs.Shapes.{front_keeps, slice_there}
use Rattle.zarrs_engine_calls.proofs.Steps.{runs_are_courses, step_event}

-- a box's list has a cell at each position
pub cell_there : (box : Box) (cells : List Cell) (position : List ℕ) → IsLong box → length cells ≡ position_count box.shape → Holds box position → (cell : Cell) × (cell_in box cells position ≡ Some cell)
cell_there box cells position long count holds =
    let below = place_in_below box position long holds in
    slice_there cells (place_in box position) (omega (arith, count))

-- what an accepted read says
record Known (layout : Layout) (region : Box) (held : ArrayData) (old new : StoreState) : Type 0 where
  given : List Cell
  are_cells : cells layout.kind held ≡ Some given
  reads : ReadsKnown (content layout (value_at old)) region given
  long : IsLong region
  covered : (position : List ℕ) → Holds region position → is_covered layout.grid position ≡ true
  same : new ≡ old

module _ (layout : Layout) (lawful : IsLawful layout) (keep : Bool) where
  whole_known : (index : List ℕ) (held : ArrayData) (old new : StoreState) → new ≡ old → RetrievesChunk layout index held old → Known layout (box_at layout.grid index) held old new
  whole_known index held old new same r = record {
    given = r.chunk;
    are_cells = r.is_chunk;
    reads = record { count = r.reads.count; each = λ position cell holds is. sym (r.reads.each position holds) ∙ is };
    long = box_long layout.grid index;
    covered = λ position holds. box_covered layout.grid lawful.grid index position (box_is_there layout.grid index r.has_box) holds;
    same = same;
  }

  moved : (region other : Box) (held other_held : ArrayData) (old new : StoreState) → Some region ≡ Some other → Some held ≡ Some other_held → Known layout region held old new → Known layout other other_held old new
  moved region other held other_held old new e d k =
      let is : region ≡ other = cc in
      let one : held ≡ other_held = cc in
      subst (λ (b : Box). Known layout b other_held old new) is (subst (λ (h : ArrayData). Known layout region h old new) one k)

  known : (shape : List ℕ) (first : Option Refusal) (act : Act) (ended : Outcome) (old new : StoreState)
      → ActOutcome layout keep shape first act ended old new → (region : Box) (held : ArrayData)
      → region_read layout act ≡ Some region → data_returned ended ≡ Some held → Known layout region held old new
  known shape first (store box h chunks) ended old new s region held e d = absurd (cc)
  known shape first (erase chunks) ended old new s region held e d = absurd (cc)
  known shape first (compact index) ended old new s region held e d = absurd (cc)
  known shape first (read box chunks) (outcome.cells got) old new s region held e d =
      let r = s.2 in
      moved box region got held old new e d (record { given = r.given; are_cells = r.are_cells; reads = r.reads; long = r.long; covered = r.covered; same = s.0 })
  known shape first (read box chunks) (outcome.refused x) old new s region held e d = absurd (cc)
  known shape first (read_chunk true index) (outcome.cells got) old new s region held e d =
      moved (box_at layout.grid index) region got held old new e d (whole_known index got old new s.0 s.2)
  known shape first (read_chunk true index) (outcome.refused x) old new s region held e d = absurd (cc)
  known shape first (read_chunk false index) (outcome.maybe (Some got)) old new s region held e d =
      moved (box_at layout.grid index) region got held old new e d (whole_known index got old new s.0 s.2.0)
  known shape first (read_chunk false index) (outcome.maybe None) old new s region held e d = absurd (cc)
  known shape first (read_chunk false index) (outcome.refused x) old new s region held e d = absurd (cc)
  known shape first (resize wanted) ended old new s region held e d = absurd (cc)
  known shape first act ended old new s region held e d = absurd s

  read_known : (event : Event) (region : Box) (held : ArrayData) (old new : ArrayState)
      → IsReadAt layout event region held → Happens layout keep event old new → Known layout region held old.store new.store
  read_known event region held old new at h =
      known old.shape h.first event.act event.ended old.store new.store h.does region held at.reads at.answer

  -- an accepted store
  stored : (event : Event) (region : Box) (held : ArrayData) (old new : ArrayState)
      → (at : IsStoreAt event region held) → Happens layout keep event old new → StoresAll layout keep region held at.0 old.store new.store
  stored event region held old new at h =
      let stores = subst (λ (act : Act). ActOutcome layout keep old.shape h.first act event.ended old.store new.store) at.1 h.does in
      let step = subst (λ (ended : Outcome). ActOutcome layout keep old.shape h.first (store region held at.0) ended old.store new.store) at.2 stores in
      step.1

  -- the content of one state is that of another
  same_content : (old new : StoreState) → new ≡ old → HaveEqualContent layout new old
  same_content old new is position = ap (λ (s : StoreState). content layout (value_at s) position) is

  -- a refused compaction changes no value
  refused_content : (first : Option Refusal) (index : List ℕ) (r : Refusal) (old new : StoreState) → RefusesCompact layout first index r old new → HaveEqualContent layout new old
  refused_content first index r old new s =
      front_keeps _ _ _ _ old new (λ stored. (position : List ℕ) → content layout stored position ≡ content layout (value_at old) position) (λ indices none. absurd none) s.front (λ position. refl)

  quiet : (shape : List ℕ) (first : Option Refusal) (act : Act) (ended : Outcome) (old new : StoreState)
      → IsQuiet act → ActOutcome layout keep shape first act ended old new → HaveEqualContent layout new old
  quiet shape first (store box h chunks) ended old new q s = absurd q
  quiet shape first (erase chunks) ended old new q s = absurd q
  quiet shape first (compact index) (outcome.compacted answer) old new q s = compactions_keep_content layout lawful index answer old new s.1
  quiet shape first (compact index) (outcome.refused x) old new q s = refused_content first index x old new s
  quiet shape first (read box chunks) (outcome.cells got) old new q s = same_content old new s.0
  quiet shape first (read box chunks) (outcome.refused x) old new q s = same_content old new s.0
  quiet shape first (read_chunk true index) (outcome.cells got) old new q s = same_content old new s.0
  quiet shape first (read_chunk true index) (outcome.refused x) old new q s = same_content old new s.0
  quiet shape first (read_chunk false index) (outcome.maybe found) old new q s = same_content old new s.0
  quiet shape first (read_chunk false index) (outcome.refused x) old new q s = same_content old new s.0
  quiet shape first (resize wanted) ended old new q s = absurd q
  quiet shape first act ended old new q s = absurd s

  quiet_course : (events : List Event) (old new : ArrayState) → AreQuietEvents events → Course layout keep events old new → HaveEqualContent layout new.store old.store
  quiet_course [] old new q r = same_content old.store new.store (ap (λ (s : ArrayState). s.store) r)
  quiet_course (event ∷ events) old new q r = λ position.
      quiet_course events r.0 new q.1 r.2 position
      ∙ quiet old.shape r.1.first event.act event.ended old.store r.0.store q.0 r.1.does position

  -- where its chunk decodes, the content has a cell at a covered position
  pub decoded_cell : (state : StoreState) (position : List ℕ) → is_covered layout.grid position ≡ true
      → ((encoded : List ℕ) → value_at state (layout.key (index_at layout.grid position)) ≡ Some encoded
      → (given : List Cell) × (decoded_cells layout (box_at layout.grid (index_at layout.grid position)) encoded ≡ Some given))
      → (cell : Cell) × (content layout (value_at state) position ≡ Some cell)
  decoded_cell state position covered decodes =
      let index = index_at layout.grid position in
      let holds = in_chunk layout lawful index position covered refl in
      elim (value_at state (layout.key index)) as (λ t. value_at state (layout.key index) ≡ t → (cell : Cell) × (content layout (value_at state) position ≡ Some cell)) [
        | None ↦ λ at. (layout.fill, content_covered layout (value_at state) position covered ∙ ap (λ t. chunk_cell layout t (box_at layout.grid index) position) at)
        | Some encoded ↦ λ at.
            let found = decodes encoded at in
            let there = cell_there (box_at layout.grid index) found.0 position (box_long layout.grid index) (lawful.chain.decoded_len _ _ _ _ found.0 found.1) holds in (
              there.0,
              content_covered layout (value_at state) position covered ∙ ap (λ t. chunk_cell layout t (box_at layout.grid index) position) at
                  ∙ ap (λ o. cell_at_place o (place_in (box_at layout.grid index) position)) found.1 ∙ there.1,
            )
      ] refl

  -- and a read of a region whose chunks decode returns it
  known_reads : (region : Box) (held : ArrayData) (old new : StoreState) → DecodesOver layout region old
      → (k : Known layout region held old new) → Reads (content layout (value_at old)) region k.given
  known_reads region held old new over k = record {
    count = k.reads.count;
    each = λ position holds.
        let covered = k.covered position holds in
        let cell = decoded_cell old position covered (λ encoded at. over position encoded holds covered at) in
        cell.1 ∙ sym (k.reads.each position cell.0 holds cell.1);
  }

-- if each chunk decodes, so do those of a region
pub each_decodes_over : (layout : Layout) → IsLawful layout → (region : Box) (state : StoreState) → EachDecodes layout state → DecodesOver layout region state
each_decodes_over layout lawful region state each position encoded holds covered at =
    each (index_at layout.grid position) encoded (covered_has_box layout lawful position covered) at

pub event_reads_of_decoding : EventReadsOfDecodingChunks
event_reads_of_decoding layout lawful keep event region got old new at h over =
    let k = read_known layout lawful keep event region got old new at h in
    (k.given, k.are_cells, known_reads layout lawful keep region got old.store new.store over k)

pub course_read_after_store : CourseReadAfterStore
course_read_after_store layout lawful keep write later events region held got s0 s1 s2 s3 at stores quiets course reads later_reads =
    let s = stored layout lawful keep write region held s0 s1 at stores in
    let k = read_known layout lawful keep later region got s2 s3 reads later_reads in
    let given = s.takes.given in
    let same : HaveEqualContent layout s2.store s1.store = quiet_course layout lawful keep events s1 s2 quiets course in
    let mine : Reads (λ position. cell_in region given position) region given = record { count = s.takes.count; each = λ position holds. refl } in
    let theirs : Reads (λ position. cell_in region given position) region k.given = record {
      count = k.reads.count;
      each = λ position holds.
          let cell = cell_there region given position k.long s.takes.count holds in
          let now : content layout (value_at s2.store) position ≡ Some cell.0 =
          same position ∙ s.updates position
          ∙ ap (λ b. cond b (cell_in region given position) (content layout (value_at s0.store) position)) holds ∙ cell.1 in
          cell.1 ∙ sym (k.reads.each position cell.0 holds now);
    } in
    k.are_cells ∙ ap Some (reads_one (λ position. cell_in region given position) (λ position. cell_in region given position) region k.given given k.long (λ position holds. refl) theirs mine) ∙ sym s.takes.are_cells

pub course_store_after_read : CourseStoreAfterRead
course_store_after_read layout lawful keep earlier write events region got held s0 s1 s2 s3 reads earlier_reads quiets course at same stores position cell is =
    let k = read_known layout lawful keep earlier region got s0 s1 reads earlier_reads in
    let s = stored layout lawful keep write region held s2 s3 at stores in
    let still : HaveEqualContent layout s2.store s0.store = λ position.
    quiet_course layout lawful keep events s1 s2 quiets course position ∙ ap (λ (t : StoreState). content layout (value_at t) position) k.same in
    let one : Some s.takes.given ≡ Some k.given = sym s.takes.are_cells ∙ same ∙ k.are_cells in
    let given : s.takes.given ≡ k.given = cc in
    elim (cases_Bool (in_box region position)) [
      | inl holds ↦
          s.updates position ∙ ap (λ b. cond b (cell_in region s.takes.given position) (content layout (value_at s2.store) position)) holds
          ∙ ap (λ (cs : List Cell). cell_in region cs position) given
          ∙ k.reads.each position cell holds (sym (still position) ∙ is)
      | inr out ↦
          s.updates position ∙ ap (λ b. cond b (cell_in region s.takes.given position) (content layout (value_at s2.store) position)) out ∙ is
    ]

-- what an accepted write leaves at a position
pub act_written : (layout : Layout) (keep : Bool) (shape : List ℕ) (first : Option Refusal) (act : Act) (old new : StoreState)
    → ActOutcome layout keep shape first act outcome.done old new → (position : List ℕ)
    → content layout (value_at new) position ≡ cond (touches layout shape act position) (written layout act position) (content layout (value_at old) position)
act_written layout keep shape first (store region held chunks) old new s position =
    s.1.updates position
    ∙ ap (λ o. cond (in_box region position) o (content layout (value_at old) position)) (sym (ap (λ o. option_and_then (λ given. cell_in region given position) o) s.1.takes.are_cells))
act_written layout keep shape first (erase chunks) old new s position = s.1.updates position
act_written layout keep shape first (resize wanted) old new s position = s.1.updates position
act_written layout keep shape first (compact index) old new s position = absurd s
act_written layout keep shape first (read region chunks) old new s position = absurd s
act_written layout keep shape first (read_chunk true index) old new s position = absurd s
act_written layout keep shape first (read_chunk false index) old new s position = absurd s

and_swaps : (a b : Bool) → a && b ≡ false → b && a ≡ false
and_swaps true true e = e
and_swaps true false e = refl
and_swaps false true e = refl
and_swaps false false e = refl

-- of two acts of which one leaves the shape, each writes the same positions after the other
touches_later : (layout : Layout) (a b : Act) (shape position : List ℕ) → is_resize a && is_resize b ≡ false → touches layout (shape_left a outcome.done shape) b position ≡ touches layout shape b position
touches_later layout (store region held chunks) b shape position one = refl
touches_later layout (erase chunks) b shape position one = refl
touches_later layout (compact index) b shape position one = refl
touches_later layout (read region chunks) b shape position one = refl
touches_later layout (read_chunk needed index) b shape position one = refl
touches_later layout (resize wanted) (store region held chunks) shape position one = refl
touches_later layout (resize wanted) (erase chunks) shape position one = refl
touches_later layout (resize wanted) (compact index) shape position one = refl
touches_later layout (resize wanted) (read region chunks) shape position one = refl
touches_later layout (resize wanted) (read_chunk needed index) shape position one = refl
touches_later layout (resize wanted) (resize other) shape position one = absurd (cc)

pub disjoint_events : DisjointEventsAgree
disjoint_events layout lawful keep first second s0 s1 s2 t1 t2 disjoint a1 b1 b2 a2 position =
    let wa = written layout first position in
    let wb = written layout second position in
    let one : is_resize second && is_resize first ≡ false = and_swaps (is_resize first) (is_resize second) disjoint.one_shape in
    let late_b = ap (λ shape. touches layout shape second position) a1.shape ∙ touches_later layout first second s0.shape position disjoint.one_shape in
    let late_a = ap (λ shape. touches layout shape first position) b2.shape ∙ touches_later layout second first s0.shape position one in
    let sa = act_written layout keep s0.shape a1.first first s0.store s1.store a1.does position in
    let sb = act_written layout keep s1.shape b1.first second s1.store s2.store b1.does position ∙ ap (λ x. cond x wb (content layout (value_at s1.store) position)) late_b in
    let tb = act_written layout keep s0.shape b2.first second s0.store t1.store b2.does position in
    let ta = act_written layout keep t1.shape a2.first first t1.store t2.store a2.does position ∙ ap (λ x. cond x wa (content layout (value_at t1.store) position)) late_a in
    elim (cases_Bool (touches layout s0.shape first position)) [
      | inl hit ↦
          let miss = disjoint.apart position hit in
          sb ∙ ap (λ x. cond x wb (content layout (value_at s1.store) position)) miss
          ∙ sa ∙ ap (λ x. cond x wa (content layout (value_at s0.store) position)) hit
          ∙ sym (ta ∙ ap (λ x. cond x wa (content layout (value_at t1.store) position)) hit)
      | inr miss ↦
          sb ∙ ap (λ o. cond (touches layout s0.shape second position) wb o) (sa ∙ ap (λ x. cond x wa (content layout (value_at s0.store) position)) miss)
          ∙ sym (ta ∙ ap (λ x. cond x wa (content layout (value_at t1.store) position)) miss ∙ tb)
    ]

pub event_parts_make : EventPartsMakeTheRegion
event_parts_make layout lawful keep event region got old new made over at h count parts =
    let k = read_known layout lawful keep event region got old new at h in
    let read = known_reads layout lawful keep region got old.store new.store over k in
    let put : Reads (content layout (value_at old.store)) region made = record {
      count = count;
      each = λ position holds.
          let p = parts position holds in
          let there = read_known layout lawful keep p.1 p.0 p.2 old p.3 p.5 p.6 in
          let covered = k.covered position holds in
          let cell = decoded_cell layout lawful keep old.store position covered (λ encoded stands. over position encoded holds covered stands) in
          let one : Some there.given ≡ Some p.4 = sym there.are_cells ∙ p.7 in
          let is : there.given ≡ p.4 = cc in
          cell.1 ∙ sym (there.reads.each position cell.0 p.8 cell.1) ∙ ap (λ (cs : List Cell). cell_in p.0 cs position) is ∙ sym p.9;
    } in
    k.are_cells ∙ ap Some (reads_one (content layout (value_at old.store)) (content layout (value_at old.store)) region k.given made k.long (λ position holds. refl) read put)

-- ---- the same of runs of calls

-- the events of calls that write no cell write none
quiet_events : (layout : Layout) (calls : List Call) (replies : List Reply) → AreQuiet layout calls → AreQuietEvents (events_of layout calls replies)
quiet_events layout [] replies q = tt
quiet_events layout (call ∷ calls) [] q = tt
quiet_events layout (call ∷ calls) (reply ∷ replies) q = (q.0, quiet_events layout calls replies q.1)

-- a call that reads a region is such an event
module _ (layout : Layout) (keep : Bool) (call : Call) (region : Box) (held : ArrayData) (old new : ArrayState) (r : ReadsAt layout keep call region held old new) where
  is_read_at : IsReadAt layout (event_of layout call r.reply) region held
  is_read_at = record { reads = r.reads; answer = r.answer }

  reads_so : Happens layout keep (event_of layout call r.reply) old new
  reads_so = step_event layout keep call r.reply old new r.step

pub read_after_store : ReadAfterStore
read_after_store layout lawful keep write later calls replies region held got s0 s1 s2 s3 at step quiets run r =
    course_read_after_store layout lawful keep (event_of layout write Done) (event_of layout later r.reply)
    (events_of layout calls replies) region held got s0 s1 s2 s3
    (at.0, at.1, refl) (step_event layout keep write Done s0 s1 step)
    (quiet_events layout calls replies quiets) (runs_are_courses layout keep calls replies s1 s2 run)
    (is_read_at layout keep later region got s2 s3 r) (reads_so layout keep later region got s2 s3 r)

pub store_after_read : StoreAfterRead
store_after_read layout lawful keep earlier write calls replies region got held s0 s1 s2 s3 r quiets run at same step =
    course_store_after_read layout lawful keep (event_of layout earlier r.reply) (event_of layout write Done)
    (events_of layout calls replies) region got held s0 s1 s2 s3
    (is_read_at layout keep earlier region got s0 s1 r) (reads_so layout keep earlier region got s0 s1 r)
    (quiet_events layout calls replies quiets) (runs_are_courses layout keep calls replies s1 s2 run)
    (at.0, at.1, refl) same (step_event layout keep write Done s2 s3 step)

pub disjoint_writes : DisjointWritesAgree
disjoint_writes layout lawful keep a b s0 s1 s2 t1 t2 disjoint a1 b1 b2 a2 =
    disjoint_events layout lawful keep (act_of layout a) (act_of layout b) s0 s1 s2 t1 t2 disjoint
    (step_event layout keep a Done s0 s1 a1) (step_event layout keep b Done s1 s2 b1)
    (step_event layout keep b Done s0 t1 b2) (step_event layout keep a Done t1 t2 a2)

pub parts_make : PartsMakeTheRegion
parts_make layout lawful keep call region got old new made over r count parts =
    event_parts_make layout lawful keep (event_of layout call r.reply) region got old new made over
    (is_read_at layout keep call region got old new r) (reads_so layout keep call region got old new r) count
    (λ position holds.
    let p = parts position holds in (
      p.0,
      event_of layout p.1 p.5.reply,
      p.2,
      p.3,
      p.4,
      is_read_at layout keep p.1 p.0 p.2 old p.3 p.5,
      reads_so layout keep p.1 p.0 p.2 old p.3 p.5,
      p.6,
      p.7,
      p.8,
    ))
