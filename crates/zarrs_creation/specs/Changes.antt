-- Changes of metadata.
use Rattle.std.specs.Prelude.{ℕ, ◌==◌, List, length, if◌then◌else◌, Option, Some, None, Result, Ok, Err}
use Rattle.zarrs_metadata_parts.specs.Extension.{ExtensionData}
use Rattle.zarrs_metadata.specs.Versions.{MetadataData, v3, v2}
use Rattle.zarrs_chunk_grid.specs.Configurations.{GridConfiguration, regular, bounded, rectangular}
use Rattle.zarrs_chunk_grid.specs.Metadata.{grid_said}
use Rattle.zarrs_options.specs.Given.{regular_extension}
use Rattle.zarrs_options.specs.Refusals.{CreateRefusal, chunk_grid, grid_dimensions, unsupported_v2, said_or}
use Rattle.zarrs_creation.specs.Meanings.{shape_said, names_said, ◌>>=◌}

-- ---- names of dimensions

-- V3 metadata with these names of dimensions; V2 metadata has none
abbrev pub with_names : Option (List (Option (List ℕ))) → MetadataData → MetadataData
with_names names (v3 m) = v3 (record m { dimension_names = names })
with_names names (v2 m) = v2 m

-- in V3 there is a name for each dimension, if there are names; in V2 there are none
abbrev pub naming : Option (List (Option (List ℕ))) → MetadataData → Result (Unit {0}) CreateRefusal
naming names (v3 m) = names_said (length m.shape) names
naming None (v2 m) = Ok tt
naming (Some names) (v2 m) = Err unsupported_v2

-- ---- another shape

-- the extension point that says how the array is cut into chunks; the chunks of V2 are a `regular` grid
abbrev pub grid_metadata_of : MetadataData → ExtensionData
grid_metadata_of (v3 m) = m.chunk_grid
grid_metadata_of (v2 m) = regular_extension m.chunks

-- the grid that metadata says
abbrev pub grid_of_metadata : MetadataData → Option GridConfiguration
grid_of_metadata m = grid_said (grid_metadata_of m) (shape_said m)

-- the metadata with this shape
abbrev pub with_shape : List ℕ → MetadataData → MetadataData
with_shape shape (v3 m) = v3 (record m { shape = shape })
with_shape shape (v2 m) = v2 (record m { shape = shape })

-- the metadata with this shape, if its grid is one over that shape (E18)
abbrev pub reshaping : List ℕ → MetadataData → Result MetadataData CreateRefusal
reshaping shape m = said_or chunk_grid (grid_of_metadata (with_shape shape m)) >>= (λ grid. Ok (with_shape shape m))

-- ---- another grid

-- the shape has as many dimensions as the array (E20)
abbrev pub dimensions_said : List ℕ → MetadataData → Result (Unit {0}) CreateRefusal
dimensions_said shape m =
    let given = length shape in
    let dimensions = length (shape_said m) in
    if given == dimensions then Ok tt else Err (grid_dimensions given dimensions)

-- the chunks that V2 metadata has for a grid: those of a `regular` one (E18)
abbrev pub chunks_said : GridConfiguration → Result (List ℕ) CreateRefusal
chunks_said (regular sizes) = Ok sizes
chunks_said (bounded sizes) = Err chunk_grid
chunks_said (rectangular sizes) = Err chunk_grid

-- the metadata with this shape and this grid, which an extension point says
abbrev pub with_grid : List ℕ → ExtensionData → GridConfiguration → MetadataData → Result MetadataData CreateRefusal
with_grid shape e grid (v3 m) = Ok (v3 (record m { shape = shape; chunk_grid = e }))
with_grid shape e grid (v2 m) = chunks_said grid >>= (λ chunks. Ok (v2 (record m { shape = shape; chunks = chunks })))

-- The metadata with this shape and the grid that is given, if that is one, or the first refusal.
abbrev pub regridding : List ℕ → Option ExtensionData → MetadataData → Result MetadataData CreateRefusal
regridding shape given m = do
  e ← said_or chunk_grid given
  fits ← dimensions_said shape m
  grid ← said_or chunk_grid (grid_said e shape)
  with_grid shape e grid m
