use Rattle.zarrs_chunk_grid.proofs.MetChunks.{index_is}
use Rattle.zarrs_chunk_grid.proofs.laws.chunk_of_a_position.Goals as goal

pub returns : goal.returns
returns g c = index_is _ (g.met.G.ChunkGridTraits.lawful c.args._grid.now)
