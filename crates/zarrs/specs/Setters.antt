-- What the setters of an array do that take what becomes a field.
use Rattle.std.specs.Prelude.{◌≡◌, ◌⊎◌, ℕ, List, Option, Ok}
use Rattle.zarrs_chunk_grid.specs.Grids.{Grid, box_at, index_at, is_covered}
use Rattle.zarrs_storage.specs.Store.{StoreState}
use Rattle.zarrs_metadata.specs.Versions.{MetadataData}
use Rattle.zarrs_options.specs.Given.{grid_given}
use Rattle.zarrs_options.specs.Refusals.{CreateRefusal, out_of_memory, RefusesCreation}
use Rattle.zarrs_options.specs.declared.chunk_grid_metadata.ArrayBuilderChunkGridMetadata.{ArrayBuilderChunkGridMetadata}
use Rattle.zarrs_creation.specs.Changes.{regridding}
use Rattle.zarrs_engine_calls.specs.Content.{content}
use Rattle.zarrs_engine_calls.specs.Laws.{EachDecodes, over_grid}
use Rattle.zarrs_engine_calls.specs.Layout.{Layout}

-- the metadata gets this shape and such a grid
abbrev pub Regrids : (ArrayBuilderChunkGridMetadata → Type 0) → List ℕ → MetadataData → MetadataData → Type 0
Regrids gives shape old new = (given : ArrayBuilderChunkGridMetadata) × gives given × (regridding shape (grid_given given) old ≡ Ok new)

-- what is given for a grid is out of memory, or refused
abbrev pub RefusesRegrid : (ArrayBuilderChunkGridMetadata → Type 0) → List ℕ → MetadataData → CreateRefusal → Type 0
RefusesRegrid gives shape m r =
    (r ≡ out_of_memory)
    ⊎ ((given : ArrayBuilderChunkGridMetadata) × gives given × RefusesCreation (regridding shape (grid_given given) m) r)

-- the position lies in the chunk of the same indices and the same box in both grids, or in none of either
pub record HasSameChunk (old new : Grid) (position : List ℕ) : Type 0 where
  pub covered : is_covered new position ≡ is_covered old position
  pub index : index_at new position ≡ index_at old position
  pub box : box_at new (index_at old position) ≡ box_at old (index_at old position)

-- wherever the chunk's box stays the cell stays, whatever bytes are present at the keys
abbrev pub KeepsCells : Layout → Layout → Type 0
KeepsCells old new =
    (stored : List ℕ → Option (List ℕ)) (position : List ℕ) → HasSameChunk old.grid new.grid position
    → content new stored position ≡ content old stored position

-- whatever the store: if each chunk that is present decodes for its box in the new grid, each decodes afterwards
abbrev pub KeepsDecoding : Layout → Layout → Type 0
KeepsDecoding old new = (state : StoreState) → EachDecodes (over_grid new.grid old) state → EachDecodes new state
