-- What a read leaves in a target depends on the places that it needs.
use Rattle.std.specs.Prelude.{ℕ, List}
use Rattle.zarrs_subset.specs.Regions.{Box}
use Rattle.zarrs_storage.specs.Store.{StoreState}
use Rattle.zarrs_data_type_region.specs.declared.target.ArrayBytesDecodeIntoTarget.{ArrayBytesDecodeIntoTarget}
use Rattle.zarrs_engine_calls.specs.Layout.{Layout, IsLawful}
use Rattle.zarrs_engine_calls.specs.Reached.{AgreeForRead}
use Rattle.zarrs_engine.specs.Into.{RetrievesInto}

-- what an accepted read of a region leaves in a target from one store, an accepted one may leave from another that is the same
-- for such a read
abbrev pub TargetReadsDependOnPlaces : Type 0
TargetReadsDependOnPlaces =
    (layout : Layout) → IsLawful layout → (shape : List ℕ) (region : Box) (old new : ArrayBytesDecodeIntoTarget) (a b : StoreState)
    → AgreeForRead layout region a b → RetrievesInto layout shape region a old new → RetrievesInto layout shape region b old new
