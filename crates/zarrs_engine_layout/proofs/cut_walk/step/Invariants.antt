use Rattle.zarrs_engine_layout.proofs.CutWalks.{IsBackFrom}
use Rattle.zarrs_engine_layout.proofs.cut_walk.step.Given as goal

abbrev pub decreases-loop-axis : goal.decreases-loop-axis
decreases-loop-axis l = l.axis

abbrev pub invariant-loop-axis : goal.invariant-loop-axis
invariant-loop-axis l = IsBackFrom l.shape l.initial.position l.axis l.position
