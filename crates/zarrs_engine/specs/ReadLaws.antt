-- Reads of one state agree, whichever call makes them.
use Rattle.std.specs.Prelude.{◌≡◌, ℕ, List, Some}
use Rattle.zarrs_subset.specs.Regions.{Box, Holds, cell_in}
use Rattle.zarrs_chunk_grid.specs.Grids.{index_at}
use Rattle.zarrs_storage.specs.Store.{StoreState}
use Rattle.zarrs_data_type.specs.Cell.{Cell}
use Rattle.zarrs_data_type.specs.ArrayData.{ArrayData}
use Rattle.zarrs_data_type.specs.Cells.{cells, cell_at}
use Rattle.zarrs_engine_calls.specs.Layout.{Layout, IsLawful}
use Rattle.zarrs_engine_calls.specs.Reads.{IsBroken}
use Rattle.zarrs_engine_calls.specs.Step.{RetrievesPart, RetrievesRegion}
use Rattle.zarrs_data_type_region.specs.declared.target.ArrayBytesDecodeIntoTarget.{ArrayBytesDecodeIntoTarget}
use Rattle.zarrs_data_type.specs.States.{data_of_target}
use Rattle.zarrs_engine.specs.Into.{RetrievesInto, place_of}
use Rattle.zarrs_engine.specs.PartialDecoders.{region_of_part}

-- the chunk of the position is absent, or its bytes decode
abbrev pub DecodesAt : Layout → StoreState → List ℕ → Type 0
DecodesAt layout state position = IsBroken layout (index_at layout.grid position) state → ⊥

-- a region that is read, and the same region that is read into a target, have the same cells
abbrev pub TargetReadsAgree : Type 0
TargetReadsAgree =
    (layout : Layout) → IsLawful layout → (shape : List ℕ) (region : Box) (held : ArrayData) (old new : ArrayBytesDecodeIntoTarget) (state : StoreState)
    → RetrievesRegion layout shape region held state → RetrievesInto layout shape region state old new
    → (given : List Cell) × (cells layout.kind held ≡ Some given)
    × ((position : List ℕ) → Holds region position → DecodesAt layout state position
    → cell_in region given position ≡ Some (cell_at layout.kind (data_of_target new) (place_of region old position)))

-- a region that is read, and a part of a chunk that is decoded, have the same cells where they have the same positions
abbrev pub DecodedPartsAgree : Type 0
DecodedPartsAgree =
    (layout : Layout) → IsLawful layout → (shape : List ℕ) (region : Box) (held : ArrayData)
    (index : List ℕ) (part : Box) (cut : ArrayData) (state : StoreState)
    → RetrievesRegion layout shape region held state → RetrievesPart layout index part cut state
    → (given : List Cell) × (found : List Cell) × (cells layout.kind held ≡ Some given) × (cells layout.kind cut ≡ Some found)
    × ((position : List ℕ) → Holds region position → Holds (region_of_part layout index part) position → DecodesAt layout state position
    → cell_in region given position ≡ cell_in (region_of_part layout index part) found position)
