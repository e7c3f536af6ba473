use Rattle.zarrs_chunk_grid.specs.Grids.{index_at}
use Rattle.zarrs_chunk_grid.proofs.Chunks.{covered_chunk, chunk_covered}
use Rattle.zarrs_chunk_grid.proofs.laws.covered_positions.Goals as goal

pub returns : goal.returns
returns g c = λ position.
    let lawful = g.met.G.ChunkGridTraits.lawful c.args._grid.now in
    (λ h. (index_at _ position, covered_chunk _ lawful position h), λ h. chunk_covered _ lawful h.0 position h.1)
