use Rattle.std.proofs.Common.{◌≡◌, take, map}
use Rattle.serde_json.specs.View.{view}
use Rattle.zarrs_chunk_grid.specs.Metadata.{sizes_data}
use Rattle.zarrs_chunk_grid.specs.Configurations.{sizes_view}
use Rattle.zarrs_chunk_grid.proofs.metadata.dimensions_value.Given as goal

-- the values so far
abbrev pub invariant-loop-sizes : goal.invariant-loop-sizes
invariant-loop-sizes l = map view l.values.items ≡ map sizes_data (map sizes_view (take l.sizes-index l.dimensions))
