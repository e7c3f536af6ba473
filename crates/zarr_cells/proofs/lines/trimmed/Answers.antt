use Rattle.zarr_cells.proofs.LineLemmas.{trimmed_is}
use Rattle.zarr_cells.proofs.lines.trimmed.Goals as goal

pub returns : goal.returns
returns c = trimmed_is c.args.text.now c.trim_ascii.result.now c.trim_ascii.ensures.value
