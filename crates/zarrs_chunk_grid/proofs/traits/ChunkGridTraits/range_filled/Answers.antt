use Rattle.std.proofs.Common.{arith}
use Rattle.zarrs_chunk_grid.proofs.FilledRanges.{interval_fits}
use Rattle.zarrs_chunk_grid.proofs.traits.ChunkGridTraits.range_filled.Goals as goal

pub overflow_add-result : goal.overflow_add-result
overflow_add-result g c =
    let lawful = g.met.Self.ChunkGridTraits.lawful c.args.self.now c.args.dimension c.requires.dimension in
    let fits = interval_fits _ lawful _ _ _ c.in_ok-last.ensures.some in
    omega (arith, fits, c.get.ensures)
