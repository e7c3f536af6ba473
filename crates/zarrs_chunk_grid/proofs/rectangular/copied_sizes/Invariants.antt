use Rattle.std.proofs.Common.{◌≡◌, take, map}
use Rattle.zarrs_chunk_grid.specs.Configurations.{sizes_view}
use Rattle.zarrs_chunk_grid.proofs.rectangular.copied_sizes.Given as goal

-- the copies so far
abbrev pub invariant-loop-cut : goal.invariant-loop-cut
invariant-loop-cut l = map sizes_view l.copies.items ≡ map sizes_view (take l.cut-index l.sizes)
