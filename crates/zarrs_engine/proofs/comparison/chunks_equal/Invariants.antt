use Rattle.std.proofs.Common.{◌≡◌, ◌-◌, length, take}
use Rattle.zarrs_subset.specs.Regions.{box_of, positions}
use Rattle.zarrs_subset.specs.Walks.{walk_box, walk_number}
use Rattle.zarrs_engine.specs.Comparisons.{HoldSameChunks, ReadBothKeys}
use Rattle.zarrs_engine.specs.Engine.{layout_of, store_of}
use Rattle.zarrs_engine.proofs.comparison.chunks_equal.Given as goal

abbrev pub invariant-loop-walk : goal.invariant-loop-walk
invariant-loop-walk g l = record {
  same_box : walk_box l.walk ≡ box_of l.chunks;
  same : HoldSameChunks (layout_of l.a) (layout_of l.b) (store_of g.S1.ReadableStorageTraits.state l.a) (store_of g.S2.ReadableStorageTraits.state l.b)
      (take (walk_number l.walk) (positions (box_of l.chunks)));
  asked : ReadBothKeys (layout_of l.a) (layout_of l.b) (store_of g.S1.ReadableStorageTraits.state l.a) (store_of g.S2.ReadableStorageTraits.state l.b)
      (take (walk_number l.walk) (positions (box_of l.chunks)));
}

abbrev pub decreases-loop-walk : goal.decreases-loop-walk
decreases-loop-walk g l = length (positions (box_of l.chunks)) - walk_number l.walk
