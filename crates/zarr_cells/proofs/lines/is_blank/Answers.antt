use Rattle.std.proofs.Common.{eqb, length, ap, ◌∙◌}
use Rattle.zarr_cells.proofs.BlankLemmas.{front_is}
use Rattle.zarr_cells.proofs.lines.is_blank.Goals as goal

pub returns : goal.returns
returns c = c.is_empty.ensures ∙ ap (λ l. eqb (length l) 0) (front_is c.args.text.now c.trim_ascii_start.result.now c.trim_ascii_start.ensures.value)
