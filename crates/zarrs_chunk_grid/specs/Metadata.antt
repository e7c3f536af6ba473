-- What the metadata of a chunk grid says, and what is written for one.
use Rattle.std.specs.Prelude.{◌||◌, ◌^◌, nat_lt, ℕ, Bool, List, sum, codes, if◌then◌else◌}
use Rattle.std.specs.Prelude.{Option, Some, None, option_map, option_and_then}
use Rattle.std.specs.Option.{option_or}
use Rattle.std.specs.Str.{bytes_eq}
use Rattle.serde_json.specs.Data.{Data}
use Rattle.zarrs_metadata_parts.specs.Lists.{list_of, list_data, number_data, size_said}
use Rattle.zarrs_metadata_parts.specs.Extension.{ExtensionData, settings, only_member, extension_with_member, ◌>>=◌}
use Rattle.zarrs_chunk_grid.specs.Configurations.{DimensionSizes, one, listed, takes_shape, GridConfiguration, regular, bounded, rectangular}

-- ---- what an extension point says

-- sizes that end below 2 ^ 64, as every extent does
abbrev pub listed_within : List ℕ → Option DimensionSizes
listed_within sizes = if nat_lt (sum sizes) (2 ^ 64) then Some (listed sizes) else None

-- a size, or a list of sizes
abbrev pub sizes_said : Data → Option DimensionSizes
sizes_said d =
    option_or (option_map one (size_said d))
    (option_and_then listed_within (list_of size_said d))

-- the two names of the `regular_bounded` grid
abbrev pub names_bounded : List ℕ → Bool
names_bounded name =
    bytes_eq name (codes "regular_bounded") || bytes_eq name (codes "zarrs.regular_bounded")

-- the configuration of the grid of this name and this `chunk_shape`
abbrev pub named_configuration : List ℕ → Data → Option GridConfiguration
named_configuration name d =
    if bytes_eq name (codes "regular")
    then option_map regular (list_of size_said d)
    else (if names_bounded name
    then option_map bounded (list_of size_said d)
    else (if bytes_eq name (codes "rectangular")
    then option_map rectangular (list_of sizes_said d)
    else None))

-- the configuration that an extension point says
abbrev pub configuration_said : ExtensionData → Option GridConfiguration
configuration_said e = only_member (codes "chunk_shape") (settings e) >>= named_configuration e.name

-- the configuration, if there is such a grid over an array of that shape
abbrev pub over_shape : List ℕ → GridConfiguration → Option GridConfiguration
over_shape shape configuration =
    if takes_shape configuration shape then Some configuration else None

-- the configuration of the grid over an array of that shape that an extension point says
abbrev pub grid_said : ExtensionData → List ℕ → Option GridConfiguration
grid_said e shape = configuration_said e >>= over_shape shape

-- ---- what is written for a grid

abbrev pub sizes_data : DimensionSizes → Data
sizes_data (one size) = number_data size
sizes_data (listed sizes) = list_data number_data sizes

abbrev pub grid_name : GridConfiguration → List ℕ
grid_name (regular sizes) = codes "regular"
grid_name (bounded sizes) = codes "regular_bounded"
grid_name (rectangular sizes) = codes "rectangular"

abbrev pub shape_data : GridConfiguration → Data
shape_data (regular sizes) = list_data number_data sizes
shape_data (bounded sizes) = list_data number_data sizes
shape_data (rectangular sizes) = list_data sizes_data sizes

-- the extension point that describes a configuration
abbrev pub extension_of_grid : GridConfiguration → ExtensionData
extension_of_grid configuration =
    extension_with_member (grid_name configuration) (codes "chunk_shape") (shape_data configuration)
