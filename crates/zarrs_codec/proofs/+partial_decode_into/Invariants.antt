use Rattle.zarrs_data_type.specs.CellTypes.{filling, kind_of}
use Rattle.std.proofs.Common.{◌-◌, ◌<◌, ℕ, None, length, take}
use Rattle.std.specs.Prelude.{slice_index_or}
use Rattle.zarrs_subset.specs.Regions.{positions}
use Rattle.zarrs_codec_chain.proofs.IntoSteps.{own_box}
use Rattle.zarrs_codec_chain.specs.OpenShards.{read_of}
use Rattle.zarrs_codec_chain.specs.ShardInto.{DecodesPartInto}
use Rattle.zarrs_codec_chain.specs.ShardParts.{MeetsPart}
use Rattle.zarrs_codec_chain.specs.ShardReads.{parts_of}
use Rattle.zarrs_subset.specs.Walks.{walk_box, walk_number}
use Rattle.zarrs_data_type.specs.States.{KeepsTarget, data_of_target, parent_box, target_box}
use Rattle.zarrs_codec.specs.ShardChunks.{inner_decoded}
use Rattle.zarrs_codec.specs.ShardPartsInto.{HasSubchunksAt}
use Rattle.zarrs_codec.proofs.+partial_decode_into.Given as goal

-- the walk goes over the subchunks that the part meets, the target has the cells of those before the one that it is at, and
-- nothing outside its box changed
abbrev pub invariant-sharding::ShardingCodec::read_subchunks_into-loop-walk : goal.invariant-sharding::ShardingCodec::read_subchunks_into-loop-walk
invariant-sharding::ShardingCodec::read_subchunks_into-loop-walk g l = record {
  kept : KeepsTarget l.initial.target l.target;
  meets : MeetsPart (read_of l.read).sub (read_of l.read).part (walk_box l.walk);
  read :
      HasSubchunksAt (kind_of l.cell_type) (inner_decoded l.self l.cell_type (read_of l.read)) (filling l.cell_type) (read_of l.read).shape (read_of l.read).sub (read_of l.read).part
      (parts_of (read_of l.read)) (take (walk_number l.walk) (positions (walk_box l.walk))) (parent_box l.initial.target) (target_box l.initial.target) (data_of_target l.target);
}

abbrev pub decreases-sharding::ShardingCodec::read_subchunks_into-loop-walk : goal.decreases-sharding::ShardingCodec::read_subchunks_into-loop-walk
decreases-sharding::ShardingCodec::read_subchunks_into-loop-walk g l = length (positions (walk_box l.walk)) - walk_number l.walk

-- the first subchunks are in the target, and nothing outside its box changed
abbrev pub invariant-sharding::ShardingCodec::read_all_into-loop-number : goal.invariant-sharding::ShardingCodec::read_all_into-loop-number
invariant-sharding::ShardingCodec::read_all_into-loop-number g l = record {
  kept : KeepsTarget l.initial.target l.target;
  parts :
      (j : ℕ) → j < l.number
      → DecodesPartInto (kind_of l.cell_type) (inner_decoded l.self l.cell_type (read_of l.read)) (filling l.cell_type) (parent_box l.initial.target)
      (own_box (target_box l.initial.target) (read_of l.read).sub j) (slice_index_or (parts_of (read_of l.read)) j None) (data_of_target l.target);
}
