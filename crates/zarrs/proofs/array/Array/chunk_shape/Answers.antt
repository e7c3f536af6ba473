use Rattle.zarrs_engine_layout.proofs.Chunks.{wrong_length}
use Rattle.zarrs_engine_layout.proofs.ChunkParts.{chunk_refused}
use Rattle.zarrs.specs.Arrays.{layout_of_array}
use Rattle.zarrs.proofs.array.Array.chunk_shape.Goals as goal

pub returns-in-Err-IncompatibleDimensionality : goal.returns-in-Err-IncompatibleDimensionality
returns-in-Err-IncompatibleDimensionality g c =
    let mismatch = rw (c.in-Err-IncompatibleDimensionality.field-0-is, c.chunk_grid.ensures) at c.in-Err-IncompatibleDimensionality.ensures.refused in
    record {
      answer = tt;
      accepted = tt;
      refused = chunk_refused (layout_of_array c.args.self.now) c.args.chunk_indices.now _ (wrong_length (layout_of_array c.args.self.now) c.args.chunk_indices.now mismatch.0) c.invalid_indices-in-Err-IncompatibleDimensionality.ensures;
    }
