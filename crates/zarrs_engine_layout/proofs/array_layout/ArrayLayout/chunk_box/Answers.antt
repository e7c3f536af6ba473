use Rattle.zarrs_engine_layout.specs.Layouts.{layout_meaning}
use Rattle.zarrs_engine_layout.proofs.Chunks.{wrong_length}
use Rattle.zarrs_engine_layout.proofs.ChunkParts.{chunk_refused}
use Rattle.zarrs_engine_layout.proofs.array_layout.ArrayLayout.chunk_box.Goals as goal

pub returns-in-Err-IncompatibleDimensionality : goal.returns-in-Err-IncompatibleDimensionality
returns-in-Err-IncompatibleDimensionality g c =
    let layout = layout_meaning c.args.self.now in
    let wrong = rw c.in-Err-IncompatibleDimensionality.field-0-is at c.in-Err-IncompatibleDimensionality.ensures.refused in
    let why = chunk_refused layout c.args.chunk_indices.now _ (wrong_length layout c.args.chunk_indices.now wrong.0) c.invalid_indices-in-Err-IncompatibleDimensionality.ensures in
    record { answer = tt; accepted = tt; refused = why }
