use Rattle.zarrs_chunk_grid.proofs.Chunks.{box_is_there, holds_chunk, chunk_holds}
use Rattle.zarrs_chunk_grid.proofs.laws.box_of_a_chunk.Goals as goal

pub returns : goal.returns
returns g c = λ indices position there.
    let lawful = g.met.G.ChunkGridTraits.lawful c.args._grid.now in
    (λ h. holds_chunk _ lawful indices position (box_is_there _ indices there) h, λ h. chunk_holds _ lawful indices position h)
