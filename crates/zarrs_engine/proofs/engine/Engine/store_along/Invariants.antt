use Rattle.std.proofs.Common.{◌≡◌, ◌-◌, false, length}
use Rattle.zarrs_subset.specs.Regions.{box_of, positions}
use Rattle.zarrs_subset.specs.Walks.{walk_box, walk_number}
use Rattle.zarrs_data_type.specs.ArrayData.{data_of}
use Rattle.zarrs_codec_chain.specs.Options.{stores_empty_chunks}
use Rattle.zarrs_engine.specs.Engine.{layout_of, store_of}
use Rattle.zarrs_engine.specs.PartStores.{TakesItself}
use Rattle.zarrs_engine.specs.Patches.{HasPatched}
use Rattle.zarrs_engine.specs.RegionWrites.{HasStored}
use Rattle.zarrs_engine.proofs.engine.Engine.store_along.Given as goal

abbrev pub invariant-loop-walk : goal.invariant-loop-walk
invariant-loop-walk g l = record {
  same_box : walk_box l.walk ≡ box_of l.chunks;
  stored : l.parts ≡ false → HasStored (layout_of l.fn.self) (stores_empty_chunks l.options) (box_of l.region) (data_of l.region_data) (positions (box_of l.chunks)) (walk_number l.walk) (store_of g.S.ReadableStorageTraits.state l.fn.self) (store_of g.S.ReadableStorageTraits.state l.self);
  patched : HasPatched (layout_of l.fn.self) (stores_empty_chunks l.options) (TakesItself (layout_of l.fn.self) l.parts (box_of l.region)) (box_of l.region) (data_of l.region_data) (positions (box_of l.chunks)) (walk_number l.walk) (store_of g.S.ReadableStorageTraits.state l.fn.self) (store_of g.S.ReadableStorageTraits.state l.self);
  layout_kept : l.self.layout ≡ l.fn.self.layout;
}

abbrev pub decreases-loop-walk : goal.decreases-loop-walk
decreases-loop-walk g l = length (positions (box_of l.chunks)) - walk_number l.walk
