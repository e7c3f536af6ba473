-- The main theorem: after any calls, accepted or refused, the array is one function from positions to cells.
use Rattle.std.specs.Prelude.{◌≡◌, ℕ, suc, ◌<◌, ◌≤◌, Bool, true, false, List, [], ◌∷◌, length, take, slice_get}
use Rattle.std.specs.Prelude.{Option, None, Some, option_and_then, if◌then◌else◌}
use Rattle.zarrs_subset.specs.Boxes.{position_count}
use Rattle.zarrs_subset.specs.Regions.{Box, Holds, in_box, cell_in}
use Rattle.zarrs_chunk_grid.specs.Grids.{box_at, is_covered}
use Rattle.zarrs_data_type.specs.Cell.{Cell}
use Rattle.zarrs_data_type.specs.ArrayData.{ArrayData}
use Rattle.zarrs_data_type.specs.Cells.{cells}
use Rattle.zarrs_engine_calls.specs.Layout.{ArrayState, Layout, IsLawful}
use Rattle.zarrs_engine_calls.specs.Content.{value_at, content, Reads}
use Rattle.zarrs_engine_calls.specs.Acts.{Act, store, erase, compact, read, read_chunk, resize, shape_left}
use Rattle.zarrs_engine_calls.specs.Outcome as outcome
use Rattle.zarrs_engine_calls.specs.Outcome.{Outcome}
use Rattle.zarrs_engine_calls.specs.Changes.{ChangesKeysOf, IsPresent}
use Rattle.zarrs_engine_calls.specs.Cuts.{cut_chunks, resized}
use Rattle.zarrs_engine_calls.specs.Fronts.{is_in_chunks}
use Rattle.zarrs_engine_calls.specs.Step.{Run}
use Rattle.zarrs_engine_calls.specs.Events.{Course, Event, events_of}
use Rattle.zarrs_engine_calls.specs.Laws.{EachDecodes, chunks_written}
use Rattle.zarrs_engine_calls.specs.Patches.{PatchRun}
use Rattle.zarrs_engine_calls.specs.declared.call.Call.{Call}
use Rattle.zarrs_engine_calls.specs.declared.call.Reply.{Reply}

-- the array as a function from positions to cells: fill where a chunk is absent, none where no chunk covers the position
abbrev pub cell_at : Layout → ArrayState → List ℕ → Option Cell
cell_at layout state = content layout (value_at state.store)

-- What an act makes of a function: a store puts its data over its region, an erasure fill into its chunks, a change of the
-- shape fill where it cuts away. Reads and compactions write no cell.
abbrev pub made : Layout → List ℕ → Act → (List ℕ → Option Cell) → List ℕ → Option Cell
made layout shape (store region held chunks) f position =
    if in_box region position then option_and_then (λ given. cell_in region given position) (cells layout.kind held) else f position
made layout shape (erase chunks) f position = if is_in_chunks layout chunks position then Some layout.fill else f position
made layout shape (resize wanted) f position = resized layout shape wanted f position
made layout shape act f position = f position

-- an accepted write: the array is what the act makes of it, and no key changed but those of its chunks
pub record IsMade (layout : Layout) (act : Act) (chunks : List (List ℕ)) (old new : ArrayState) : Type 0 where
  pub cells : (position : List ℕ) → cell_at layout new position ≡ made layout old.shape act (cell_at layout old) position
  pub keys : ChangesKeysOf layout chunks old.store new.store

-- a refused call: the same in the first `done` of its chunks alone, and one is left if there is one
pub record IsMadeInPart (layout : Layout) (act : Act) (chunks : List (List ℕ)) (old new : ArrayState) : Type 0 where
  pub done : ℕ
  pub left : 0 < length chunks → done < length chunks
  pub cells : (position : List ℕ) → cell_at layout new position ≡ (if is_in_chunks layout (take done chunks) position
      then made layout old.shape act (cell_at layout old) position else cell_at layout old position)
  pub keys : ChangesKeysOf layout (take done chunks) old.store new.store

-- the data lists the cells of the array over the region, which chunks cover, in row-major order
pub record Lists (layout : Layout) (region : Box) (held : ArrayData) (state : ArrayState) : Type 0 where
  pub given : List Cell
  pub are_cells : cells layout.kind held ≡ Some given
  pub reads : Reads (cell_at layout state) region given
  pub covered : (position : List ℕ) → Holds region position → is_covered layout.grid position ≡ true

-- the data is one cell for each position of the region
abbrev pub HasOneEach : Layout → Box → ArrayData → Type 0
HasOneEach layout region held = (given : List Cell) × (cells layout.kind held ≡ Some given) × (length given ≡ position_count region.shape)

-- what a call does to the array, whatever the reason of a refusal
abbrev pub Change : Layout → Act → Outcome → ArrayState → ArrayState → Type 0
Change layout (store region held chunks) outcome.done old new = IsMade layout (store region held chunks) chunks old new × HasOneEach layout region held
Change layout (erase chunks) outcome.done old new = IsMade layout (erase chunks) chunks old new
Change layout (resize wanted) outcome.done old new = IsMade layout (resize wanted) (cut_chunks layout.grid old.shape wanted) old new
Change layout (compact index) (outcome.compacted true) old new = IsMade layout (compact index) (index ∷ []) old new
Change layout (compact index) (outcome.compacted false) old new = new ≡ old
Change layout (read region chunks) (outcome.cells held) old new = (new ≡ old) × Lists layout region held old
Change layout (read_chunk true index) (outcome.cells held) old new = (new ≡ old) × Lists layout (box_at layout.grid index) held old
Change layout (read_chunk false index) (outcome.maybe (Some held)) old new =
    (new ≡ old) × Lists layout (box_at layout.grid index) held old × IsPresent layout index old.store
Change layout (read_chunk false index) (outcome.maybe None) old new = (new ≡ old) × (value_at old.store (layout.key index) ≡ None)
Change layout act (outcome.refused r) old new = IsMadeInPart layout act (chunks_written layout old.shape act) old new
Change layout act ended old new = ⊥

-- There is a state after each number of these events, from old to new: each two neighbours are a Change, and in each every
-- chunk decodes.
pub record IsOneFunction (layout : Layout) (events : List Event) (old new : ArrayState) : Type 0 where
  pub at : ℕ → ArrayState
  pub first : at 0 ≡ old
  pub last : at (length events) ≡ new
  pub changes : (k : ℕ) (event : Event) → slice_get events k ≡ Some event → Change layout event.act event.ended (at k) (at (suc k))
  pub shapes : (k : ℕ) (event : Event) → slice_get events k ≡ Some event → (at (suc k)).shape ≡ shape_left event.act event.ended (at k).shape
  pub decodes : (k : ℕ) → k ≤ length events → EachDecodes layout (at k).store

-- Each of these calls has its reply, and through them the array is one function.
pub record IsOneFunctionThrough (layout : Layout) (calls : List Call) (replies : List Reply) (old new : ArrayState) : Type 0 where
  pub one_each : length replies ≡ length calls
  pub function : IsOneFunction layout (events_of layout calls replies) old new

-- of calls that are made by themselves, also of typed values
abbrev pub AnArrayIsOneFunction : Type 0
AnArrayIsOneFunction =
    (layout : Layout) → IsLawful layout → (keep : Bool) (events : List Event) (old new : ArrayState)
    → EachDecodes layout old.store → Course layout keep events old new → IsOneFunction layout events old new

-- of lists of calls, each of which has its reply
abbrev pub RunsAreOneFunction : Type 0
RunsAreOneFunction =
    (layout : Layout) → IsLawful layout → (keep : Bool) (calls : List Call) (replies : List Reply) (old new : ArrayState)
    → EachDecodes layout old.store → Run layout keep calls replies old new → IsOneFunctionThrough layout calls replies old new

-- of lists of calls whose stores may write the parts of chunks by themselves
abbrev pub PatchedRunsAreOneFunction : Type 0
PatchedRunsAreOneFunction =
    (layout : Layout) → IsLawful layout → (keep asked : Bool) (calls : List Call) (replies : List Reply) (old new : ArrayState)
    → EachDecodes layout old.store → PatchRun layout keep asked calls replies old new → IsOneFunctionThrough layout calls replies old new
