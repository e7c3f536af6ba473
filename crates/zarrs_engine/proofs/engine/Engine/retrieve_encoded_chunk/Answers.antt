use Rattle.std.proofs.Common.{rules}
use Rattle.zarrs_engine_calls.specs.Refusals.{refusal_of}
use Rattle.zarrs_engine.specs.Engine.{layout_of}
use Rattle.zarrs_engine.proofs.Encoded.{key_said}
use Rattle.zarrs_engine.proofs.engine.Engine.retrieve_encoded_chunk.Goals as goal

pub returns-in_err-encoded : goal.returns-in_err-encoded
returns-in_err-encoded g c =
    let state = g.S.ReadableStorageTraits.state c.args.self.now.storage in
    let why = key_said (layout_of c.args.self.now) c.args.chunk_indices.now c.requires.dimensions state (refusal_of c.in_err-encoded.field-0.0) c.in_err-encoded.ensures.refused in
    search (rules, why)
