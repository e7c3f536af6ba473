use Rattle.std.proofs.Common.{◌∙◌}
use Rattle.zarr_arrays.proofs.opened.Opened.cells.Goals as goal

pub returns : goal.returns
returns c = record {
  files = c.read_chunks.new.files;
  same = c.in_ok-read_chunks.ensures.directory ∙ c.new-files.ensures.directory;
  only = c.in_ok-read_chunks.ensures.read;
  cells = c.in_ok-cells.ensures;
}
