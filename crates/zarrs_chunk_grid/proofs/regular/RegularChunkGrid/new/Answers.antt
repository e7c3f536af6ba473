use Rattle.std.proofs.Common.{refl, ap, arith}
use Rattle.zarrs_metadata_parts.specs.Lists.{sizes_of}
use Rattle.zarrs_chunk_grid.specs.Configurations.{regular}
use Rattle.zarrs_chunk_grid.proofs.ConfigurationLemmas.{regular_made, counts_made, taken_alike}
use Rattle.zarrs_chunk_grid.proofs.regular.RegularChunkGrid.new.Goals as goal

pub returns-clause-configuration : goal.returns-clause-configuration
returns-clause-configuration c = ap (λ xs. regular (sizes_of xs)) c.in_ok-grid.ensures.chunks

pub returns-clause-grid : goal.returns-clause-grid
returns-clause-grid c = regular_made _ _ _ _ c.in_ok-grid.ensures.chunks c.in_ok-grid.ensures.shape

pub returns-clause-counts : goal.returns-clause-counts
returns-clause-counts c = counts_made _ _ _ _ _ c.in_ok-grid.grid.counted c.in_ok-grid.ensures.chunks c.in_ok-grid.ensures.shape

pub returns-clause-taken : goal.returns-clause-taken
returns-clause-taken c =
    let same = c.in_ok-check_length.ensures.ok in
    taken_alike regular c.args.chunk_shape.items c.args.array_shape.items refl refl (omega arith)
