-- What a value of `ChunkGrid` stands for.
use Rattle.std.specs.Prelude.{◌≡◌, ℕ, List, map, Option, Some, option_and_then, Result, Ok, Err}
use Rattle.zarrs_metadata_parts.specs.Refusals.{RefusesMeaning}
use Rattle.zarrs_metadata_parts.specs.declared.error.PluginCreateError.{PluginCreateError}
use Rattle.zarrs_metadata_parts.specs.Lists.{sizes_of}
use Rattle.zarrs_chunk_grid.specs.Configurations.{GridConfiguration, regular, bounded, rectangular, sizes_view}
use Rattle.zarrs_chunk_grid.specs.Metadata.{over_shape}
use Rattle.zarrs_chunk_grid.specs.declared.grid.ChunkGrid.{ChunkGrid}
use Rattle.zarrs_chunk_grid.specs.declared.grid.ChunkGrid.TheVariants.{Regular, RegularBounded, Rectangular}

-- the grid's name and its sizes
abbrev pub configuration_of : ChunkGrid → GridConfiguration
configuration_of (Regular g) = regular (sizes_of g.chunk_shape.items)
configuration_of (RegularBounded g) = bounded (sizes_of g.whole.chunk_shape.items)
configuration_of (Rectangular g) = rectangular (map sizes_view g.sizes.items)

-- the extents of the array
abbrev pub array_extents_of : ChunkGrid → List ℕ
array_extents_of (Regular g) = g.array_shape.items
array_extents_of (RegularBounded g) = g.whole.array_shape.items
array_extents_of (Rectangular g) = g.array_shape.items

-- the grid shape
abbrev pub grid_extents_of : ChunkGrid → List ℕ
grid_extents_of (Regular g) = g.grid_shape.items
grid_extents_of (RegularBounded g) = g.whole.grid_shape.items
grid_extents_of (Rectangular g) = g.grid_shape.items

-- the grid of the configuration that was said, over an array of that shape; or a refusal, if there is
-- no such grid
abbrev pub GridRead : Option GridConfiguration → List ℕ → Result ChunkGrid PluginCreateError → Type 0
GridRead said shape (Ok g) =
    (option_and_then (over_shape shape) said ≡ Some (configuration_of g))
    × (array_extents_of g ≡ shape)
GridRead said shape (Err e) = RefusesMeaning (option_and_then (over_shape shape) said) e
