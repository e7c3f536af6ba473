use Rattle.std.proofs.Common.{◌≡◌, ◌-◌, take, length}
use Rattle.zarrs_subset.specs.Regions.{box_of, positions}
use Rattle.zarrs_subset.specs.Walks.{walk_box, walk_number}
use Rattle.zarrs_data_type.specs.RegionData.{region_data}
use Rattle.zarrs_engine.specs.Engine.{layout_of, store_of}
use Rattle.zarrs_engine.specs.RegionReads.{HasRead}
use Rattle.zarrs_engine.proofs.engine.Engine.read_along.Given as goal

abbrev pub invariant-loop-share : goal.invariant-loop-share
invariant-loop-share g l = record {
  same_box : walk_box l.walk ≡ box_of l.chunks;
  read : HasRead (layout_of l.self) (box_of l.region) (take (walk_number l.walk) (positions (box_of l.chunks))) (store_of g.S.ReadableStorageTraits.state l.self) (region_data l.made);
}

abbrev pub decreases-loop-share : goal.decreases-loop-share
decreases-loop-share g l = length (positions (box_of l.chunks)) - walk_number l.walk
