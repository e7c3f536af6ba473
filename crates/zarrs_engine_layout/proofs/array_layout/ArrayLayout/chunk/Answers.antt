use Rattle.std.proofs.Common.{refl}
use Rattle.zarrs_engine_layout.specs.Layouts.{layout_meaning}
use Rattle.zarrs_engine_layout.proofs.ChunkParts.{chunk_has}
use Rattle.zarrs_engine_layout.proofs.array_layout.ArrayLayout.chunk.Goals as goal

pub returns : goal.returns
returns g c = record {
  answer = record {
    chunk = record {
      boxed = chunk_has (layout_meaning c.args.self.now) c.args.chunk_indices.now c.in_ok-region.ensures.accepted;
      key = c.in_ok-key.ensures.key;
      region = c.in_ok-region.ensures.answer;
    };
    indices = refl;
  };
  accepted = c.in_ok-region.ensures.accepted;
  refused = tt;
}
