-- Chunk grids in metadata: what is written reads as what was written.
use Rattle.std.proofs.Common.{◌≡◌, ℕ, ◌<◌, ◌^◌, List, map, Option, Some, option_map, option_and_then, sum, refl, ap, ◌∙◌}
use Rattle.std.specs.Option.{option_or}
use Rattle.std.proofs.lemmas.Bool.{lt-ltb}
use Rattle.std.proofs.lemmas.Simd.{map-map}
use Rattle.serde_json.specs.Data.{Data}
use Rattle.serde_json.specs.View.{items_of}
use Rattle.zarrs_metadata_parts.specs.Lists.{all_of, list_of, list_data, sizes_of}
use Rattle.zarrs_metadata_parts.proofs.ListLemmas.{all_of-items_of, size_back, sizes_back}
use Rattle.zarrs_chunk_grid.specs.Configurations.{DimensionSizes, one, listed, regular, bounded, rectangular, sizes_view}
use Rattle.zarrs_chunk_grid.specs.Metadata.{sizes_said, listed_within, sizes_data, configuration_said, extension_of_grid}
use Rattle.zarrs_chunk_grid.specs.GridView.{configuration_of}
use Rattle.zarrs_chunk_grid.specs.declared.dimension.ChunkSizes.{ChunkSizes}
use Rattle.zarrs_chunk_grid.specs.declared.dimension.ChunkSizes.TheVariants.{Size, Sizes}
use Rattle.zarrs_chunk_grid.specs.declared.grid.ChunkGrid.{ChunkGrid}
use Rattle.zarrs_chunk_grid.specs.declared.grid.ChunkGrid.TheVariants.{Regular, RegularBounded, Rectangular}

or_first : (said : Option ℕ) (n : ℕ) (rest : Option DimensionSizes) → said ≡ Some n → option_or (option_map one said) rest ≡ Some (one n)
or_first said n rest is = rw is refl

within_is : (sizes : List ℕ) → sum sizes < 2 ^ 64 → listed_within sizes ≡ Some (listed sizes)
within_is sizes fits = rw (lt-ltb _ _ fits) refl

dimension_back : (sizes : ChunkSizes) → sizes_said (sizes_data (sizes_view sizes)) ≡ Some (sizes_view sizes)
dimension_back (Size size) = or_first _ size.value _ (size_back size)
dimension_back (Sizes list) =
    ap (option_and_then listed_within) (sizes_back list.sizes.items)
    ∙ within_is (sizes_of list.sizes.items) list.fits

dimensions_back : (sizes : List ChunkSizes) → list_of sizes_said (list_data sizes_data (map sizes_view sizes)) ≡ Some (map sizes_view sizes)
dimensions_back sizes =
    ap (λ (ds : List Data). all_of sizes_said (items_of ds)) (map-map sizes_data sizes_view sizes)
    ∙ all_of-items_of sizes_said (λ (s : ChunkSizes). sizes_data (sizes_view s)) sizes_view dimension_back sizes

-- the configuration that a grid's own metadata says
pub said_back : (g : ChunkGrid) → configuration_said (extension_of_grid (configuration_of g)) ≡ Some (configuration_of g)
said_back (Regular g) = ap (λ (o : Option (List ℕ)). option_map regular o) (sizes_back g.chunk_shape.items)
said_back (RegularBounded g) = ap (λ (o : Option (List ℕ)). option_map bounded o) (sizes_back g.whole.chunk_shape.items)
said_back (Rectangular g) =
    ap (λ (o : Option (List DimensionSizes)). option_map rectangular o) (dimensions_back g.sizes.items)
