use Rattle.std.proofs.Common.{◌≡◌, ◌-◌, take, length}
use Rattle.zarrs_subset.specs.Regions.{box_of, positions}
use Rattle.zarrs_subset.specs.Walks.{walk_box, walk_number}
use Rattle.zarrs_data_type.specs.States.{KeepsTarget, data_of_target, parent_box, target_box}
use Rattle.zarrs_engine.specs.Engine.{layout_of, store_of}
use Rattle.zarrs_engine.specs.TargetReads.{HasReadSoFar}
use Rattle.zarrs_engine.proofs.engine.Engine.read_into.Given as goal

-- the first chunks were read, and nothing outside the target's box changed
abbrev pub invariant-loop-walk : goal.invariant-loop-walk
invariant-loop-walk g l = record {
  same_box : walk_box l.walk ≡ box_of l.chunks;
  kept : KeepsTarget l.initial.target l.target;
  read :
      HasReadSoFar (layout_of l.self) l.fn.filled (box_of l.region) (take (walk_number l.walk) (positions (box_of l.chunks))) (store_of g.S.ReadableStorageTraits.state l.self)
      (parent_box l.initial.target) (target_box l.initial.target) (data_of_target l.target);
}

abbrev pub decreases-loop-walk : goal.decreases-loop-walk
decreases-loop-walk g l = length (positions (box_of l.chunks)) - walk_number l.walk
