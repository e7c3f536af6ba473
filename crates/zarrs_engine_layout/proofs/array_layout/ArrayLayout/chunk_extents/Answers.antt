use Rattle.std.proofs.Common.{rules}
use Rattle.zarrs_engine_calls.specs.Refusals.{refusal_of}
use Rattle.zarrs_engine_layout.specs.Layouts.{layout_meaning}
use Rattle.zarrs_engine_layout.proofs.ChunkParts.{box_refuses}
use Rattle.zarrs_engine_layout.proofs.array_layout.ArrayLayout.chunk_extents.Goals as goal

pub returns-in_err-shape : goal.returns-in_err-shape
returns-in_err-shape g c =
    let why = box_refuses (layout_meaning c.args.self.now) c.args.chunk_indices.now (refusal_of c.in_err-shape.field-0.0) c.in_err-shape.ensures.refused in
    search (rules, why)
