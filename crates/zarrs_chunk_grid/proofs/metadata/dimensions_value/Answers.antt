use Rattle.std.proofs.Common.{map}
use Rattle.zarrs_chunk_grid.specs.Metadata.{sizes_data}
use Rattle.zarrs_chunk_grid.specs.Configurations.{sizes_view}
use Rattle.zarrs_metadata_parts.proofs.ListLemmas.{list_written}
use Rattle.zarrs_chunk_grid.proofs.metadata.dimensions_value.Goals as goal

pub returns : goal.returns
returns c = list_written sizes_data (map sizes_view) c.args.dimensions.now c.loop-sizes.sizes-index c.loop-sizes.values c.loop-sizes-test.false c.loop-sizes.invariant
