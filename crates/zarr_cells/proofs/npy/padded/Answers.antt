use Rattle.std.proofs.Common.{◌∙◌}
use Rattle.zarr_cells.proofs.ListLemmas.{blank_more}
use Rattle.zarr_cells.proofs.npy.padded.Goals as goal

pub loop-done-preserved : goal.loop-done-preserved
loop-done-preserved c = c.in_ok-push.ensures.items ∙ blank_more c.loop-done.made.items c.args.text.items c.loop-done._done c.loop-done.invariant
