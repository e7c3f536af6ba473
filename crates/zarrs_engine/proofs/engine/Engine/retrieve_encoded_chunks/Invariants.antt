use Rattle.std.proofs.Common.{◌≡◌, ◌-◌, length, map, option_map, take}
use Rattle.zarrs_subset.specs.Regions.{box_of, positions}
use Rattle.zarrs_subset.specs.Walks.{walk_box, walk_number}
use Rattle.zarrs_engine.specs.Encoded.{ReadsKeys, stored_values}
use Rattle.zarrs_engine.specs.Engine.{layout_of, store_of}
use Rattle.zarrs_engine.proofs.engine.Engine.retrieve_encoded_chunks.Given as goal

abbrev pub invariant-loop-walk : goal.invariant-loop-walk
invariant-loop-walk g l = record {
  same_box : walk_box l.walk ≡ box_of l.chunks;
  read : map (option_map (λ v. v.items)) l.values.items ≡ stored_values (layout_of l.self) (store_of g.S.ReadableStorageTraits.state l.self) (take (walk_number l.walk) (positions (box_of l.chunks)));
  asked : ReadsKeys (layout_of l.self) (take (walk_number l.walk) (positions (box_of l.chunks))) (store_of g.S.ReadableStorageTraits.state l.self);
}

abbrev pub decreases-loop-walk : goal.decreases-loop-walk
decreases-loop-walk g l = length (positions (box_of l.chunks)) - walk_number l.walk
