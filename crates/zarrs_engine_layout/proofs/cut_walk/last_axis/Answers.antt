use Rattle.std.proofs.Common.{arith, inl, inr, ◌-◌}
use Rattle.std.proofs.lemmas.Bool.{cases_eq}
use Rattle.zarrs_engine_layout.proofs.CutWalks.{at_past}
use Rattle.zarrs_engine_layout.proofs.cut_walk.last_axis.Goals as goal

pub loop-axis-init : goal.loop-axis-init
loop-axis-init c = record {
  within = omega arith;
  later = λ k past. let none = at_past c.args.shape.now k (omega arith) in omega arith;
}

pub loop-axis-preserved : goal.loop-axis-preserved
loop-axis-preserved c = record {
  within = omega arith;
  later = λ k low. elim (cases_eq k (c.loop-axis.axis - 1)) [
    | inl same ↦ rw same (omega arith)
    | inr other ↦ c.loop-axis.invariant.later k (omega arith)
  ];
}
