use Rattle.zarrs_data_type.specs.CellTypes.{filling, kind_of}
use Rattle.std.proofs.Common.{◌≡◌, ◌-◌, ℕ, List, true, length, take}
use Rattle.zarrs_data_type.specs.RegionData.{region_data}
use Rattle.zarrs_subset.specs.Regions.{positions}
use Rattle.zarrs_subset.specs.Walks.{walk_box, walk_number}
use Rattle.zarrs_codec_chain.specs.OpenShards.{read_of}
use Rattle.zarrs_codec_chain.specs.ShardParts.{HasSubchunkParts, MeetsPart, is_among}
use Rattle.zarrs_codec_chain.specs.ShardReads.{parts_of}
use Rattle.zarrs_codec.specs.ShardChunks.{DecodesOne, inner_decoded}
use Rattle.zarrs_codec.proofs.+partial_decode.Given as goal

-- the walk goes over the subchunks that the part meets, and the data has the cells of those before the one that it is at; of a
-- whole shard they decode
abbrev pub invariant-sharding::ShardingCodec::read_subchunks-loop-walk : goal.invariant-sharding::ShardingCodec::read_subchunks-loop-walk
invariant-sharding::ShardingCodec::read_subchunks-loop-walk g l = record {
  meets : MeetsPart (read_of l.read).sub (read_of l.read).part (walk_box l.walk);
  read :
      HasSubchunkParts (kind_of l.cell_type) (inner_decoded l.self l.cell_type (read_of l.read)) (filling l.cell_type) (read_of l.read).shape (read_of l.read).sub (read_of l.read).part
      (parts_of (read_of l.read)) (take (walk_number l.walk) (positions (walk_box l.walk))) (region_data l.made);
  decodes :
      (read_of l.read).part.shape ≡ (read_of l.read).shape → (i : List ℕ) → is_among (take (walk_number l.walk) (positions (walk_box l.walk))) i ≡ true
      → DecodesOne l.self l.cell_type (read_of l.read) i;
}

abbrev pub decreases-sharding::ShardingCodec::read_subchunks-loop-walk : goal.decreases-sharding::ShardingCodec::read_subchunks-loop-walk
decreases-sharding::ShardingCodec::read_subchunks-loop-walk g l = length (positions (walk_box l.walk)) - walk_number l.walk
