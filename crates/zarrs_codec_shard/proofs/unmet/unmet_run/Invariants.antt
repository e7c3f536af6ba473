use Rattle.std.proofs.Common.{◌≡◌, ◌/◌, ◌≤◌, length, drop}
use Rattle.zarrs_subset.specs.Boxes.{position_count}
use Rattle.zarrs_subset.specs.Regions.{box_of}
use Rattle.zarrs_codec_shard.proofs.UnmetRuns.{IsRun}
use Rattle.zarrs_codec_shard.proofs.unmet.unmet_run.Given as goal

abbrev pub decreases-loop-axis : goal.decreases-loop-axis
decreases-loop-axis l = l.axis

abbrev pub invariant-loop-axis : goal.invariant-loop-axis
invariant-loop-axis l = record {
  within : l.axis ≤ length l.grid;
  rest : l.rest ≡ l.number / position_count (drop l.axis l.grid);
  block : l.block ≡ position_count (drop l.axis l.grid);
  run : IsRun l.sub l.grid (box_of l.part) l.number l.axis l.run;
}
