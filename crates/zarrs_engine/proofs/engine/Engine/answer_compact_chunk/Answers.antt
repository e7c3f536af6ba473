use Rattle.std.proofs.Common.{arith}
use Rattle.zarrs_engine.specs.Engine.{layout_of}
use Rattle.zarrs_engine_layout.proofs.Chunks.{refuses_length}
use Rattle.zarrs_engine.proofs.Writes.{refused_early}
use Rattle.zarrs_engine.proofs.engine.Engine.answer_compact_chunk.Goals as goal

pub returns-then-chunk_indices-dimensionality-clause-step : goal.returns-then-chunk_indices-dimensionality-clause-step
returns-then-chunk_indices-dimensionality-clause-step g c = λ keep shape.
    let layout = layout_of c.args.self.now in
    let index = c.args.chunk_indices.now in
    let e = c.invalid_indices.result in
    refused_early _ _ _ _ (g.S.ReadableStorageTraits.state c.args.self.now.storage)
    (refuses_length layout index e (λ long. c.if-chunk_indices-dimensionality.true (omega (arith, long, c.dimensionality.ensures))) c.invalid_indices.ensures)
