-- Arrays over new stores, and changes of their shape.
use Rattle.std.proofs.Common.{◌≡◌, ◌∙◌, ℕ, Bool, false, List, ap, subst}
use Rattle.std.specs.FinMap as map
use Rattle.zarrs_storage.specs.Memory.{MemoryState, open_state}
use Rattle.zarrs_storage.specs.Store.{StoreState}
use Rattle.zarrs_engine_calls.specs.Canon.{HasNoChunk}
use Rattle.zarrs_engine_calls.specs.Events.{Course, events_of, shape_was_changed}
use Rattle.zarrs_engine_calls.specs.Laws.{AcceptedShapeChanges, EachDecodes, IsCourseFromNothing, IsResized, KeepsOutside, RunsAreCourses, ShapeChangesKeepOutside}
use Rattle.zarrs_engine_calls.specs.Layout.{ArrayState, IsLawful, Layout}
use Rattle.zarrs_engine_calls.specs.Outcome as outcome
use Rattle.zarrs_engine_calls.specs.Step.{ResizesArray, Run}
use Rattle.zarrs_engine_calls.specs.declared.call.Call.{Call}
use Rattle.zarrs_engine_calls.specs.declared.call.Reply.{Reply}
use Rattle.zarrs_engine_calls.proofs.Contents.{index_list}

-- a run from a store without a chunk, which keeps no empty chunks, is a course from nothing
pub from_nothing : (layout : Layout) (keep : Bool) (calls : List Call) (replies : List Reply) (old new : ArrayState) → keep ≡ false → HasNoChunk layout old.store
    → RunsAreCourses → Run layout keep calls replies old new → IsCourseFromNothing layout new
from_nothing layout keep calls replies old new off none law run = (
  events_of layout calls replies,
  old,
  none,
  subst (λ k. Course layout k (events_of layout calls replies) old new) off (law layout keep calls replies old new run),
)

-- a new store has no chunk
pub new_has_no_chunk : (layout : Layout) (m : MemoryState) → m ≡ record { values = map.empty; calls = 0; failures = 0; parts = 0 } → HasNoChunk layout (open_state m)
new_has_no_chunk layout m new index long = ap (λ (s : MemoryState). map.get s.values (layout.key index)) new ∙ map.get-empty _ (layout.key index)

-- so each of its chunks decodes
pub none_decodes : (layout : Layout) → IsLawful layout → (state : StoreState) → HasNoChunk layout state → EachDecodes layout state
none_decodes layout lawful state none index encoded boxed present =
    let absent = none index (index_list layout lawful index boxed) in
    absurd cc

-- what an accepted change of the shape leaves
module _ (layout : Layout) (keep : Bool) (wanted : List ℕ) (old new : ArrayState) (shape : new.shape ≡ wanted) (done : ResizesArray layout keep old.shape wanted old.store new.store) where
  pub is_resized : AcceptedShapeChanges → IsResized layout wanted old new
  is_resized law = law layout keep wanted old new (shape_was_changed layout keep old new wanted shape done)

  pub keeps_outside : IsLawful layout → ShapeChangesKeepOutside → KeepsOutside layout wanted old new
  keeps_outside lawful law = law layout lawful keep outcome.done wanted old new (shape_was_changed layout keep old new wanted shape done)
