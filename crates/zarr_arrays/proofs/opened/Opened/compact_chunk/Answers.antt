use Rattle.std.proofs.Common.{◌∙◌}
use Rattle.zarr_arrays.proofs.Asked.{kept_forgotten, kept_on}
use Rattle.zarr_arrays.proofs.opened.Opened.compact_chunk.Goals as goal

pub returns-clause-compacted : goal.returns-clause-compacted
returns-clause-compacted c = λ same. record {
  read = c.read_chunk.new.store;
  kept = kept_on c.args.self.now.store c.forget.new.self c.read_chunk.new.store (kept_forgotten c.args.self.now.store c.forget.new.self c.forget.ensures.forgets) c.in_ok-read_chunk.ensures.kept.kept;
  asked = c.in_ok-read_chunk.ensures.read;
  compacts = c.in_ok-answer.ensures.compacted;
  directory = c.compact_chunk.ensures.directory ∙ c.in_ok-read_chunk.ensures.kept.kept.directory ∙ c.forget.ensures.directory;
}
