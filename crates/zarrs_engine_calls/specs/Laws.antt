-- Laws of calls: of courses, which are calls one after another, and of runs, which are lists of calls.
use Rattle.std.specs.Prelude.{◌≡◌, ◌↔◌, ℕ, ◌+◌, ◌<◌, ◌≤◌, ◌&&◌, not, Bool, true, false, List, [], ◌∷◌, length, take}
use Rattle.std.specs.Prelude.{Option, Some, None, option_and_then, Contains, if◌then◌else◌}
use Rattle.zarrs_subset.specs.Boxes.{position_count}
use Rattle.zarrs_subset.specs.Regions.{Box, Holds, in_box, cell_in}
use Rattle.zarrs_chunk_grid.specs.Grids.{Grid, IsGrid, box_at, has_box, index_at, is_covered}
use Rattle.zarrs_keys.specs.Keys.{IsIndexList}
use Rattle.zarrs_storage.specs.Store.{StoreState, Values, KeepsReach}
use Rattle.zarrs_data_type.specs.Cell.{Cell}
use Rattle.zarrs_data_type.specs.ArrayData.{ArrayData}
use Rattle.zarrs_data_type.specs.Cells.{cells}
use Rattle.zarrs_engine_calls.specs.Layout.{Layout, IsLawful, ArrayState}
use Rattle.zarrs_engine_calls.specs.Content.{value_at, content, decoded_cells, Reads}
use Rattle.zarrs_engine_calls.specs.Changes.{Makes}
use Rattle.zarrs_engine_calls.specs.Canon.{IsCanonical, KeepsCanon, HasNoChunk, HasChunksAlone, IsCanonicalMap, IsChunkPart, IsNoChunkKey}
use Rattle.zarrs_engine_calls.specs.declared.call.Call.{Call}
use Rattle.zarrs_engine_calls.specs.declared.call.Reply.{Reply}
use Rattle.zarrs_engine_calls.specs.declared.call.Reply.TheVariants.{Done}
use Rattle.zarrs_engine_calls.specs.Acts.{Act, store, erase, compact, read, read_chunk, resize, act_of}
use Rattle.zarrs_engine_calls.specs.Compactions.{CompactsChunk, compacted_bytes}
use Rattle.zarrs_engine_calls.specs.Cuts.{cut_chunks, is_below, is_cut, is_cut_away, keeps_some, resized}
use Rattle.zarrs_engine_calls.specs.Events.{Course, Event, Happens, accepted_write, change_of_shape, event_of, events_of}
use Rattle.zarrs_engine_calls.specs.Fronts.{CutsAll, ErasesAll, StoresAll, is_in_chunks}
use Rattle.zarrs_engine_calls.specs.Outcome as outcome
use Rattle.zarrs_engine_calls.specs.Outcome.{Outcome, outcome_of}
use Rattle.zarrs_engine_calls.specs.Refusals.{Refusal}
use Rattle.zarrs_engine_calls.specs.Step.{Step, Run, RefusesCompact, RefusesCuts, RefusesErase, RefusesStore}

-- the two functions are one
abbrev pub HaveEqualContent : Layout → StoreState → StoreState → Type 0
HaveEqualContent layout a b = (position : List ℕ) → content layout (value_at a) position ≡ content layout (value_at b) position

-- the same bytes are present at each chunk key, or none in both
abbrev pub HaveEqualBytes : Layout → StoreState → StoreState → Type 0
HaveEqualBytes layout a b = (index : List ℕ) → IsIndexList layout.grid.dimensions index → value_at a (layout.key index) ≡ value_at b (layout.key index)

-- canonical stores have equal content exactly if they have equal bytes
abbrev pub ContentIsBytes : Type 0
ContentIsBytes =
    (layout : Layout) → IsLawful layout → (a b : StoreState) → IsCanonical layout (value_at a) → IsCanonical layout (value_at b)
    → HaveEqualContent layout a b ↔ HaveEqualBytes layout a b

-- each chunk that is present and has a box decodes
abbrev pub EachDecodes : Layout → StoreState → Type 0
EachDecodes layout state = (index encoded : List ℕ) → has_box layout.grid index ≡ true → value_at state (layout.key index) ≡ Some encoded
    → (cells : List Cell) × (decoded_cells layout (box_at layout.grid index) encoded ≡ Some cells)

-- each chunk of a canonical store decodes
abbrev pub CanonicalStoresDecode : Type 0
CanonicalStoresDecode = (layout : Layout) → IsLawful layout → (state : StoreState) → IsCanonical layout (value_at state) → EachDecodes layout state

-- a store without a chunk is canonical
abbrev pub EmptyStoresAreCanonical : Type 0
EmptyStoresAreCanonical = (layout : Layout) → IsLawful layout → (state : StoreState) → HasNoChunk layout state → IsCanonical layout (value_at state)

-- and is fill wherever chunks cover it
abbrev pub EmptyStoresAreFill : Type 0
EmptyStoresAreFill =
    (layout : Layout) → IsLawful layout → (state : StoreState) → HasNoChunk layout state
    → (position : List ℕ) → is_covered layout.grid position ≡ true → content layout (value_at state) position ≡ Some layout.fill

-- a store is canonical exactly if its part at the keys of chunks is the map of its content
abbrev pub CanonicalPartsAreMaps : Type 0
CanonicalPartsAreMaps =
    (layout : Layout) → IsLawful layout → (state : StoreState) (values : Values) → IsChunkPart layout state values
    → IsCanonical layout (value_at state) ↔ IsCanonicalMap layout (content layout (value_at state)) values

-- so the values of a canonical store that has the keys of chunks alone are that map
abbrev pub CanonicalStoresAreTheirMap : Type 0
CanonicalStoresAreTheirMap =
    (layout : Layout) → IsLawful layout → (state : StoreState) → IsCanonical layout (value_at state) → HasChunksAlone layout state
    → IsCanonicalMap layout (content layout (value_at state)) state.values

-- functions that agree wherever chunks cover them have one map
abbrev pub CanonicalMapsAreOne : Type 0
CanonicalMapsAreOne =
    (layout : Layout) → IsLawful layout → (f g : List ℕ → Option Cell)
    → ((position : List ℕ) → is_covered layout.grid position ≡ true → f position ≡ g position)
    → (m n : Values) → IsCanonicalMap layout f m → IsCanonicalMap layout g n → m ≡ n

-- between two states of a run with equally many accepted writing calls no value changed (stated by sums, since the
-- numbers of a store are any)
abbrev pub EqualCountsAgree : Type 0
EqualCountsAgree =
    (layout : Layout) (keep : Bool) (calls : List Call) (replies : List Reply) (old new : ArrayState)
    → Run layout keep calls replies old new → new.store.calls + old.store.failures ≡ old.store.calls + new.store.failures
    → new.store.values ≡ old.store.values

-- the act writes no cell
abbrev pub IsQuiet : Act → Type 0
IsQuiet (store region held chunks) = ⊥
IsQuiet (erase chunks) = ⊥
IsQuiet (compact index) = Unit {0}
IsQuiet (read region chunks) = Unit {0}
IsQuiet (read_chunk needed index) = Unit {0}
IsQuiet (resize wanted) = ⊥

-- each of the calls writes no cell
abbrev pub AreQuiet : Layout → List Call → Type 0
AreQuiet layout [] = Unit {0}
AreQuiet layout (call ∷ calls) = IsQuiet (act_of layout call) × AreQuiet layout calls

-- the call stores this data at this region
abbrev pub StoresAt : Layout → Call → Box → ArrayData → Type 0
StoresAt layout call region held = (chunks : List (List ℕ)) × (act_of layout call ≡ store region held chunks)

-- the region that an act reads
abbrev pub region_read : Layout → Act → Option Box
region_read layout (read region chunks) = Some region
region_read layout (read_chunk needed index) = Some (box_at layout.grid index)
region_read layout _ = None

-- the data that an act returned, and that of a reply
abbrev pub data_returned : Outcome → Option ArrayData
data_returned (outcome.cells held) = Some held
data_returned (outcome.maybe found) = found
data_returned _ = None

abbrev pub data_in : Reply → Option ArrayData
data_in reply = data_returned (outcome_of reply)

-- the call, in this step, reads this region and returns this data
pub record ReadsAt (layout : Layout) (keep : Bool) (call : Call) (region : Box) (held : ArrayData) (old new : ArrayState) : Type 0 where
  pub reply : Reply
  pub step : Step layout keep call reply old new
  pub reads : region_read layout (act_of layout call) ≡ Some region
  pub answer : data_in reply ≡ Some held

-- the store of a region, and then, with no cell written between, a read of it: the stored cells
abbrev pub ReadAfterStore : Type 0
ReadAfterStore =
    (layout : Layout) → IsLawful layout → (keep : Bool) (write later : Call)
    (calls : List Call) (replies : List Reply) (region : Box) (held got : ArrayData) (s0 s1 s2 s3 : ArrayState)
    → StoresAt layout write region held → Step layout keep write Done s0 s1
    → AreQuiet layout calls → Run layout keep calls replies s1 s2
    → ReadsAt layout keep later region got s2 s3
    → cells layout.kind got ≡ cells layout.kind held

-- storing what was read, with no cell written between, changes no cell
abbrev pub StoreAfterRead : Type 0
StoreAfterRead =
    (layout : Layout) → IsLawful layout → (keep : Bool) (earlier write : Call)
    (calls : List Call) (replies : List Reply) (region : Box) (got held : ArrayData) (s0 s1 s2 s3 : ArrayState)
    → ReadsAt layout keep earlier region got s0 s1
    → AreQuiet layout calls → Run layout keep calls replies s1 s2
    → StoresAt layout write region held → cells layout.kind held ≡ cells layout.kind got → Step layout keep write Done s2 s3
    → (position : List ℕ) (cell : Cell)
    → content layout (value_at s2.store) position ≡ Some cell → content layout (value_at s3.store) position ≡ Some cell

-- whether the act writes the cell at the position of an array of this shape, and the cell that it writes there
abbrev pub touches : Layout → List ℕ → Act → List ℕ → Bool
touches layout shape (store region held chunks) position = in_box region position
touches layout shape (erase chunks) position = is_in_chunks layout chunks position
touches layout shape (resize wanted) position = is_cut_away layout.grid shape wanted position
touches layout shape _ position = false

abbrev pub written : Layout → Act → List ℕ → Option Cell
written layout (store region held chunks) position = option_and_then (λ given. cell_in region given position) (cells layout.kind held)
written layout (erase chunks) position = Some layout.fill
written layout (resize wanted) position = Some layout.fill
written layout _ position = None

-- the act may change the array's shape
abbrev pub is_resize : Act → Bool
is_resize (resize wanted) = true
is_resize _ = false

-- no position of an array of this shape is written by both acts, and one of them leaves the shape
pub record AreDisjointActs (layout : Layout) (shape : List ℕ) (a b : Act) : Type 0 where
  pub apart : (position : List ℕ) → touches layout shape a position ≡ true → touches layout shape b position ≡ false
  pub one_shape : is_resize a && is_resize b ≡ false

-- the same of two calls
abbrev pub AreDisjoint : Layout → List ℕ → Call → Call → Type 0
AreDisjoint layout shape a b = AreDisjointActs layout shape (act_of layout a) (act_of layout b)

-- two disjoint writes, accepted in both orders, leave the same content
abbrev pub DisjointWritesAgree : Type 0
DisjointWritesAgree =
    (layout : Layout) → IsLawful layout → (keep : Bool) (a b : Call) (s0 s1 s2 t1 t2 : ArrayState)
    → AreDisjoint layout s0.shape a b
    → Step layout keep a Done s0 s1 → Step layout keep b Done s1 s2
    → Step layout keep b Done s0 t1 → Step layout keep a Done t1 t2
    → HaveEqualContent layout s2.store t2.store

-- each chunk that is present and has a position of the region decodes
abbrev pub DecodesOver : Layout → Box → StoreState → Type 0
DecodesOver layout region state =
    (position encoded : List ℕ) → Holds region position → is_covered layout.grid position ≡ true
    → value_at state (layout.key (index_at layout.grid position)) ≡ Some encoded
    → (given : List Cell) × (decoded_cells layout (box_at layout.grid (index_at layout.grid position)) encoded ≡ Some given)

-- A region's cells are those of its parts put together, if its chunks decode. Take a list of one cell for each
-- position of the region, which at each of them has the cell that the read of some part has there. It is what a read
-- of the region returns.
abbrev pub PartsMakeTheRegion : Type 0
PartsMakeTheRegion =
    (layout : Layout) → IsLawful layout → (keep : Bool) (call : Call) (region : Box) (got : ArrayData) (old new : ArrayState) (made : List Cell)
    → DecodesOver layout region old.store → ReadsAt layout keep call region got old new
    → length made ≡ position_count region.shape
    → ((position : List ℕ) → Holds region position
    → (part : Box) × (piece : Call) × (cut : ArrayData) × (after : ArrayState) × (found : List Cell)
    × ReadsAt layout keep piece part cut old after × (cells layout.kind cut ≡ Some found) × Holds part position
    × (cell_in region made position ≡ cell_in part found position))
    → cells layout.kind got ≡ Some made

-- both grids cover the position, by a chunk of the same indices and the same box
pub record HaveSameChunk (a b : Grid) (position : List ℕ) : Type 0 where
  pub covered : is_covered a position ≡ true
  pub still_covered : is_covered b position ≡ true
  pub same_indices : index_at b position ≡ index_at a position
  pub same_box : box_at b (index_at a position) ≡ box_at a (index_at a position)

-- the layout of an array that is cut by another grid
abbrev pub over_grid : Grid → Layout → Layout
over_grid grid layout = record layout { grid = grid }

-- an array that is cut by another grid has the same cell wherever its chunk is the same
abbrev pub SameChunksHaveSameCells : Type 0
SameChunksHaveSameCells =
    (layout : Layout) (grid : Grid) (state : StoreState) (position : List ℕ)
    → HaveSameChunk layout.grid grid position
    → content (over_grid grid layout) (value_at state) position ≡ content layout (value_at state) position

-- a chunk is cut exactly if it has a position that is not below the shape, and keeps some exactly if it has one that is
pub record AreCutRight (grid : Grid) (shape index : List ℕ) : Type 0 where
  pub cut : (is_cut grid shape index ≡ true) ↔ ((position : List ℕ) × Holds (box_at grid index) position × (is_below shape position ≡ false))
  pub kept : (keeps_some grid shape index ≡ true) ↔ ((position : List ℕ) × Holds (box_at grid index) position × (is_below shape position ≡ true))

-- a chunk is cut exactly if it has a position that is not below the shape, and keeps some exactly if it has one that is
abbrev pub CutsAreRight : Type 0
CutsAreRight =
    (grid : Grid) → IsGrid grid → (shape index : List ℕ) → length shape ≡ grid.dimensions → has_box grid index ≡ true
    → AreCutRight grid shape index

-- an accepted change of the shape: what it cuts away is fill, by one writing call for each chunk that it cuts
pub record IsResized (layout : Layout) (wanted : List ℕ) (old new : ArrayState) : Type 0 where
  pub shape : new.shape ≡ wanted
  pub cells : (position : List ℕ)
      → content layout (value_at new.store) position ≡ resized layout old.shape wanted (content layout (value_at old.store)) position
  pub makes : Makes (length (cut_chunks layout.grid old.shape wanted)) 0 old.store new.store

-- a refused one: the shape stays, and of the chunks that it cuts the first `done` are cut
pub record IsResizedInPart (layout : Layout) (wanted : List ℕ) (old new : ArrayState) : Type 0 where
  pub done : ℕ
  pub failed : ℕ
  pub within : done ≤ length (cut_chunks layout.grid old.shape wanted)
  pub below : 0 < length (cut_chunks layout.grid old.shape wanted) → done < length (cut_chunks layout.grid old.shape wanted)
  pub shape : new.shape ≡ old.shape
  pub cells : (position : List ℕ) → content layout (value_at new.store) position
      ≡ (if is_in_chunks layout (take done (cut_chunks layout.grid old.shape wanted)) position && not (is_below wanted position)
      then Some layout.fill else content layout (value_at old.store) position)
  pub makes : Makes done failed old.store new.store
  pub one : failed ≤ 1

-- whatever the reply: outside the chunks of the array as it was, no value changed; and no cell did that is not cut away
pub record KeepsOutside (layout : Layout) (wanted : List ℕ) (old new : ArrayState) : Type 0 where
  pub chunks : (index : List ℕ) → IsIndexList layout.grid.dimensions index → is_below (layout.grid.counts old.shape) index ≡ false
      → value_at new.store (layout.key index) ≡ value_at old.store (layout.key index)
  pub cells : (position : List ℕ) → is_cut_away layout.grid old.shape wanted position ≡ false
      → content layout (value_at new.store) position ≡ content layout (value_at old.store) position

-- each contract of a writing call keeps what holds of the store, whether the call was accepted or refused
pub record WritesKeep (layout : Layout) (keep : Bool) (P : StoreState → Type 0) : Type 0 where
  pub stored : (region : Box) (held : ArrayData) (chunks : List (List ℕ)) (old new : StoreState)
      → StoresAll layout keep region held chunks old new → P old → P new
  pub store_refused : (first : Option Refusal) (region : Box) (held : ArrayData) (chunks : List (List ℕ)) (r : Refusal) (old new : StoreState)
      → RefusesStore layout keep first region held chunks r old new → P old → P new
  pub erased : (chunks : List (List ℕ)) (old new : StoreState) → ErasesAll layout chunks old new → P old → P new
  pub erase_refused : (first : Option Refusal) (chunks : List (List ℕ)) (r : Refusal) (old new : StoreState)
      → RefusesErase layout first chunks r old new → P old → P new
  pub compacted : (index : List ℕ) (answer : Bool) (old new : StoreState) → CompactsChunk layout index answer old new → P old → P new
  pub compaction_refused : (first : Option Refusal) (index : List ℕ) (r : Refusal) (old new : StoreState)
      → RefusesCompact layout first index r old new → P old → P new
  pub cut : (shape wanted : List ℕ) (old new : StoreState) → CutsAll layout keep shape wanted old new → P old → P new
  pub cut_refused : (shape : List ℕ) (first : Option Refusal) (wanted : List ℕ) (r : Refusal) (old new : StoreState)
      → RefusesCuts layout keep shape first wanted r old new → P old → P new

-- if empty chunks are not kept, each writing call leaves a canonical store canonical
abbrev pub WritesKeepCanon : Type 0
WritesKeepCanon = (layout : Layout) → IsLawful layout → WritesKeep layout false (λ state. IsCanonical layout (value_at state))

-- each writing call leaves chunks that decode, if all did
abbrev pub WritesKeepDecoding : Type 0
WritesKeepDecoding = (layout : Layout) → IsLawful layout → (keep : Bool) → WritesKeep layout keep (EachDecodes layout)

-- a chunk of a canonical store has no compaction
abbrev pub CanonicalChunksAreCompact : Type 0
CanonicalChunksAreCompact =
    (layout : Layout) → IsLawful layout → (state : StoreState) → IsCanonical layout (value_at state)
    → (index encoded : List ℕ) → has_box layout.grid index ≡ true → value_at state (layout.key index) ≡ Some encoded
    → compacted_bytes layout index encoded ≡ Some None

-- an accepted compaction leaves the content
abbrev pub CompactionsKeepContent : Type 0
CompactionsKeepContent =
    (layout : Layout) → IsLawful layout → (index : List ℕ) (answer : Bool) (old new : StoreState)
    → CompactsChunk layout index answer old new → HaveEqualContent layout new old

-- and on a canonical store it answers false, and writes nothing
abbrev pub CanonicalStoresAreCompact : Type 0
CanonicalStoresAreCompact =
    (layout : Layout) → IsLawful layout → (index : List ℕ) (answer : Bool) (old new : StoreState)
    → CompactsChunk layout index answer old new → IsCanonical layout (value_at old) → (answer ≡ false) × (new ≡ old)

-- the layouts differ in their keys alone
pub record DifferInKeys (a b : Layout) : Type 0 where
  pub grid : b.grid ≡ a.grid
  pub chain : b.chain ≡ a.chain
  pub kind : b.kind ≡ a.kind
  pub fill : b.fill ≡ a.fill

-- of each of these chunks the same bytes are present in both stores, or none in both
abbrev pub HoldSameBytes : Layout → Layout → StoreState → StoreState → List (List ℕ) → Type 0
HoldSameBytes a b one two chunks =
    (index : List ℕ) → Contains chunks index → value_at one (a.key index) ≡ value_at two (b.key index)

-- the two functions agree over the boxes of these chunks
abbrev pub AgreeOver : Grid → List (List ℕ) → (List ℕ → Option Cell) → (List ℕ → Option Cell) → Type 0
AgreeOver grid chunks f g =
    (index : List ℕ) → Contains chunks index → has_box grid index ≡ true
    → (position : List ℕ) → Holds (box_at grid index) position → f position ≡ g position

-- chunks of two canonical arrays of the same grid, type, fill value and chain have the same bytes exactly if the two
-- functions agree over their boxes
abbrev pub ComparisonIsContent : Type 0
ComparisonIsContent =
    (a b : Layout) → IsLawful a → IsLawful b → DifferInKeys a b
    → (one two : StoreState) → IsCanonical a (value_at one) → IsCanonical b (value_at two)
    → (chunks : List (List ℕ)) → ((index : List ℕ) → Contains chunks index → IsIndexList a.grid.dimensions index)
    → HoldSameBytes a b one two chunks ↔ AgreeOver a.grid chunks (content a (value_at one)) (content b (value_at two))

-- the chunks that an act writes, on an array of this shape
abbrev pub chunks_written : Layout → List ℕ → Act → List (List ℕ)
chunks_written layout shape (store region held chunks) = chunks
chunks_written layout shape (erase chunks) = chunks
chunks_written layout shape (compact index) = index ∷ []
chunks_written layout shape (resize wanted) = cut_chunks layout.grid shape wanted
chunks_written layout shape _ = []

-- an accepted act makes one writing call for each chunk that it writes, and none fails; a compaction that answers false
-- makes none; a refused act makes one for each chunk that is done, and at most one that fails
abbrev pub CountsWrites : List (List ℕ) → Outcome → StoreState → StoreState → Type 0
CountsWrites chunks (outcome.refused r) old new =
    (done : ℕ) × (failed : ℕ) × (done ≤ length chunks) × (0 < length chunks → done < length chunks) × (failed ≤ 1) × Makes done failed old new
CountsWrites chunks (outcome.compacted false) old new = Makes 0 0 old new
CountsWrites chunks ended old new = Makes (length chunks) 0 old new

-- ---- courses of events: calls that are made by themselves, also of typed values

-- a step of a call is an event, and a run of calls is a course of events
abbrev pub StepsAreEvents : Type 0
StepsAreEvents =
    (layout : Layout) (keep : Bool) (call : Call) (reply : Reply) (old new : ArrayState)
    → Step layout keep call reply old new → Happens layout keep (event_of layout call reply) old new

abbrev pub RunsAreCourses : Type 0
RunsAreCourses =
    (layout : Layout) (keep : Bool) (calls : List Call) (replies : List Reply) (old new : ArrayState)
    → Run layout keep calls replies old new → Course layout keep (events_of layout calls replies) old new

-- a course leaves a canonical store canonical, if empty chunks are not kept
abbrev pub CoursesKeepCanon : Type 0
CoursesKeepCanon =
    (layout : Layout) → IsLawful layout → (keep : Bool) (events : List Event) (old new : ArrayState)
    → Course layout keep events old new → KeepsCanon layout keep old.store new.store

-- it leaves chunks that decode, if all did
abbrev pub CoursesKeepDecoding : Type 0
CoursesKeepDecoding =
    (layout : Layout) → IsLawful layout → (keep : Bool) (events : List Event) (old new : ArrayState)
    → Course layout keep events old new → EachDecodes layout old.store → EachDecodes layout new.store

-- it changes nothing of what may be asked, and no call of it writes a part of a value
abbrev pub CoursesKeepReach : Type 0
CoursesKeepReach =
    (layout : Layout) (keep : Bool) (events : List Event) (old new : ArrayState)
    → Course layout keep events old new → KeepsReach old.store new.store

-- it leaves the values at the keys of no chunk
abbrev pub CoursesKeepOtherKeys : Type 0
CoursesKeepOtherKeys =
    (layout : Layout) → IsLawful layout → (keep : Bool) (events : List Event) (old new : ArrayState)
    → Course layout keep events old new → (key : List ℕ) → IsNoChunkKey layout key → value_at new.store key ≡ value_at old.store key

-- a course from a store without a chunk, if empty chunks are not kept
abbrev pub IsCourseFromNothing : Layout → ArrayState → Type 0
IsCourseFromNothing layout new = (events : List Event) × (old : ArrayState) × HasNoChunk layout old.store × Course layout false events old new

-- two courses from stores without a chunk have equal content exactly if they have equal bytes
abbrev pub CoursesAgree : Type 0
CoursesAgree =
    (layout : Layout) → IsLawful layout → (a b : ArrayState) → IsCourseFromNothing layout a → IsCourseFromNothing layout b
    → HaveEqualContent layout a.store b.store ↔ HaveEqualBytes layout a.store b.store

-- between two states of a course with equally many accepted writing calls no value changed
abbrev pub CourseCountsAgree : Type 0
CourseCountsAgree =
    (layout : Layout) (keep : Bool) (events : List Event) (old new : ArrayState)
    → Course layout keep events old new → new.store.calls + old.store.failures ≡ old.store.calls + new.store.failures
    → new.store.values ≡ old.store.values

-- how many writing calls an event makes
abbrev pub EventsCount : Type 0
EventsCount =
    (layout : Layout) (keep : Bool) (event : Event) (old new : ArrayState)
    → Happens layout keep event old new → CountsWrites (chunks_written layout old.shape event.act) event.ended old.store new.store

-- each of the events writes no cell
abbrev pub AreQuietEvents : List Event → Type 0
AreQuietEvents [] = Unit {0}
AreQuietEvents (event ∷ events) = IsQuiet event.act × AreQuietEvents events

-- the event is an accepted store of this data at this region
abbrev pub IsStoreAt : Event → Box → ArrayData → Type 0
IsStoreAt event region held = (chunks : List (List ℕ)) × (event.act ≡ store region held chunks) × (event.ended ≡ outcome.done)

-- the event is a read of this region, and returned this data
pub record IsReadAt (layout : Layout) (event : Event) (region : Box) (held : ArrayData) : Type 0 where
  pub reads : region_read layout event.act ≡ Some region
  pub answer : data_returned event.ended ≡ Some held

-- the store of a region, and then, with no cell written between, a read of it: the stored cells
abbrev pub CourseReadAfterStore : Type 0
CourseReadAfterStore =
    (layout : Layout) → IsLawful layout → (keep : Bool) (write later : Event)
    (events : List Event) (region : Box) (held got : ArrayData) (s0 s1 s2 s3 : ArrayState)
    → IsStoreAt write region held → Happens layout keep write s0 s1
    → AreQuietEvents events → Course layout keep events s1 s2
    → IsReadAt layout later region got → Happens layout keep later s2 s3
    → cells layout.kind got ≡ cells layout.kind held

-- storing what was read, with no cell written between, changes no cell
abbrev pub CourseStoreAfterRead : Type 0
CourseStoreAfterRead =
    (layout : Layout) → IsLawful layout → (keep : Bool) (earlier write : Event)
    (events : List Event) (region : Box) (got held : ArrayData) (s0 s1 s2 s3 : ArrayState)
    → IsReadAt layout earlier region got → Happens layout keep earlier s0 s1
    → AreQuietEvents events → Course layout keep events s1 s2
    → IsStoreAt write region held → cells layout.kind held ≡ cells layout.kind got → Happens layout keep write s2 s3
    → (position : List ℕ) (cell : Cell)
    → content layout (value_at s2.store) position ≡ Some cell → content layout (value_at s3.store) position ≡ Some cell

-- two disjoint writes, accepted in both orders, leave the same content
abbrev pub DisjointEventsAgree : Type 0
DisjointEventsAgree =
    (layout : Layout) → IsLawful layout → (keep : Bool) (a b : Act) (s0 s1 s2 t1 t2 : ArrayState)
    → AreDisjointActs layout s0.shape a b
    → Happens layout keep (accepted_write a) s0 s1 → Happens layout keep (accepted_write b) s1 s2
    → Happens layout keep (accepted_write b) s0 t1 → Happens layout keep (accepted_write a) t1 t2
    → HaveEqualContent layout s2.store t2.store

-- if the chunks of its region decode, a read returns the content over it
abbrev pub EventReadsOfDecodingChunks : Type 0
EventReadsOfDecodingChunks =
    (layout : Layout) → IsLawful layout → (keep : Bool) (event : Event) (region : Box) (got : ArrayData) (old new : ArrayState)
    → IsReadAt layout event region got → Happens layout keep event old new → DecodesOver layout region old.store
    → (given : List Cell) × (cells layout.kind got ≡ Some given) × Reads (content layout (value_at old.store)) region given

-- A region's cells are those of its parts put together, if its chunks decode.
abbrev pub EventPartsMakeTheRegion : Type 0
EventPartsMakeTheRegion =
    (layout : Layout) → IsLawful layout → (keep : Bool) (event : Event) (region : Box) (got : ArrayData) (old new : ArrayState) (made : List Cell)
    → DecodesOver layout region old.store → IsReadAt layout event region got → Happens layout keep event old new
    → length made ≡ position_count region.shape
    → ((position : List ℕ) → Holds region position
    → (part : Box) × (piece : Event) × (cut : ArrayData) × (after : ArrayState) × (found : List Cell)
    × IsReadAt layout piece part cut × Happens layout keep piece old after × (cells layout.kind cut ≡ Some found) × Holds part position
    × (cell_in region made position ≡ cell_in part found position))
    → cells layout.kind got ≡ Some made

-- an accepted change of the shape cuts, and a refused one cuts a front of what it would cut
abbrev pub AcceptedShapeChanges : Type 0
AcceptedShapeChanges =
    (layout : Layout) (keep : Bool) (wanted : List ℕ) (old new : ArrayState)
    → Happens layout keep (change_of_shape wanted outcome.done) old new → IsResized layout wanted old new

abbrev pub RefusedShapeChanges : Type 0
RefusedShapeChanges =
    (layout : Layout) (keep : Bool) (r : Refusal) (wanted : List ℕ) (old new : ArrayState)
    → Happens layout keep (change_of_shape wanted (outcome.refused r)) old new → IsResizedInPart layout wanted old new

-- neither changes a chunk outside the array as it was, or a cell that is not cut away
abbrev pub ShapeChangesKeepOutside : Type 0
ShapeChangesKeepOutside =
    (layout : Layout) → IsLawful layout → (keep : Bool) (ended : Outcome) (wanted : List ℕ) (old new : ArrayState)
    → Happens layout keep (change_of_shape wanted ended) old new → KeepsOutside layout wanted old new
