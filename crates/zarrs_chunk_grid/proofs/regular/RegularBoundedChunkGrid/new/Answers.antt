use Rattle.std.proofs.Common.{refl, ap, arith}
use Rattle.zarrs_metadata_parts.specs.Lists.{sizes_of}
use Rattle.zarrs_chunk_grid.specs.Configurations.{bounded}
use Rattle.zarrs_chunk_grid.proofs.ConfigurationLemmas.{bounded_made, counts_made, taken_alike}
use Rattle.zarrs_chunk_grid.proofs.regular.RegularBoundedChunkGrid.new.Goals as goal

pub returns-clause-configuration : goal.returns-clause-configuration
returns-clause-configuration c = ap (λ xs. bounded (sizes_of xs)) c.in_ok-whole.ensures.chunks

pub returns-clause-grid : goal.returns-clause-grid
returns-clause-grid c = bounded_made _ _ _ _ c.in_ok-whole.ensures.chunks c.in_ok-whole.ensures.shape

pub returns-clause-counts : goal.returns-clause-counts
returns-clause-counts c = counts_made _ _ _ _ _ c.in_ok-whole.whole.counted c.in_ok-whole.ensures.chunks c.in_ok-whole.ensures.shape

pub returns-clause-taken : goal.returns-clause-taken
returns-clause-taken c =
    let same = c.in_ok-check_length.ensures.ok in
    taken_alike bounded c.args.chunk_shape.items c.args.array_shape.items refl refl (omega arith)
