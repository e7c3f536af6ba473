-- A region is stored and read twice: the events of the three calls, and what the laws of courses say of them.
use Rattle.std.proofs.Common.{◌≡◌, ◌∙◌, false, List, [], ◌∷◌, Some, refl, sym, subst}
use Rattle.zarrs_subset.specs.Regions.{Box}
use Rattle.zarrs_data_type.specs.ArrayData.{ArrayData}
use Rattle.zarrs_data_type.specs.Cell.{Cell}
use Rattle.zarrs_data_type.specs.Cells.{cells}
use Rattle.zarrs_engine_calls.specs.Canon.{IsCanonical}
use Rattle.zarrs_engine_calls.specs.ChunkBoxes.{chunks_met}
use Rattle.zarrs_engine_calls.specs.Content.{value_at}
use Rattle.zarrs_engine_calls.specs.Events.{Event, Happens, one_event, read_of_region, region_was_read, region_was_stored, store_of_region}
use Rattle.zarrs_engine_calls.specs.Laws.{CourseReadAfterStore, CoursesKeepCanon}
use Rattle.zarrs_engine_calls.specs.Layout.{ArrayState, Layout, IsLawful}
use Rattle.zarrs_engine_calls.specs.Outcome as outcome
use Rattle.zarrs_engine_calls.specs.Step.{RetrievesRegion, StoresRegion}

module _ (layout after : Layout) (lawful : IsLawful layout) (same : after ≡ layout) (region : Box) (held first second : ArrayData) (old new : ArrayState) (shape : new.shape ≡ old.shape)
    (stored : StoresRegion layout false old.shape region held old.store new.store) (read : RetrievesRegion after new.shape region first new.store) (again : RetrievesRegion after new.shape region second new.store) where
  abbrev stores : Event
  stores = store_of_region layout region held outcome.done

  abbrev reads : ArrayData → Event
  reads got = read_of_region layout region (outcome.cells got)

  was_stored : Happens layout false stores old new
  was_stored = region_was_stored layout false old new shape region held stored

  was_read : (got : ArrayData) → RetrievesRegion after new.shape region got new.store → Happens layout false (reads got) new new
  was_read got there = region_was_read layout false new region got (subst (λ (l : Layout). RetrievesRegion l new.shape region got new.store) same there)

  pub stored_cells : CourseReadAfterStore → cells layout.kind second ≡ cells layout.kind held
  stored_cells law =
      law layout lawful false stores (reads second) (reads first ∷ []) region held second old new new new
      (chunks_met layout.grid region, refl, refl) was_stored (tt, tt) (one_event layout false new new (reads first) (was_read first read)) (record { reads = refl; answer = refl }) (was_read second again)

  pub stays_canonical : CoursesKeepCanon → IsCanonical layout (value_at old.store) → IsCanonical layout (value_at new.store)
  stays_canonical law =
      law layout lawful false (stores ∷ reads first ∷ reads second ∷ []) old new (new, was_stored, (new, was_read first read, (new, was_read second again, refl))) refl

-- so the values have the same cells
pub same_values : (given made : List Cell) (layout after : Layout) (held second : ArrayData) → after ≡ layout → cells layout.kind held ≡ Some given → cells after.kind second ≡ Some made
    → cells layout.kind second ≡ cells layout.kind held → made ≡ given
same_values given made layout after held second same gives makes one =
    let both : Some made ≡ Some given = sym (subst (λ (l : Layout). cells l.kind second ≡ Some made) same makes) ∙ one ∙ gives in
    cc
