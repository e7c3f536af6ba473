use Rattle.std.proofs.Common.{◌∙◌}
use Rattle.zarr_arrays.proofs.Asked.{kept_forgotten, kept_on}
use Rattle.zarr_arrays.proofs.opened.Opened.store_cells.Goals as goal

pub returns-clause-stored : goal.returns-clause-stored
returns-clause-stored c = record {
  read = c.read_parts.new.store;
  kept = kept_on c.args.self.now.store c.forget.new.self c.read_parts.new.store (kept_forgotten c.args.self.now.store c.forget.new.self c.forget.ensures.forgets) c.in_ok-read_parts.ensures.kept;
  asked = c.in_ok-read_parts.ensures.ask;
  stores = c.in_ok-store_cells.ensures.stored;
  directory = c.store_cells.ensures.directory ∙ c.in_ok-read_parts.ensures.kept.directory ∙ c.forget.ensures.directory;
}
