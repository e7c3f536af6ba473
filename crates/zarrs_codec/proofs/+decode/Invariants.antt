use Rattle.zarrs_data_type.specs.CellTypes.{filling, kind_of}
use Rattle.std.proofs.Common.{map}
use Rattle.zarrs_data_type.specs.RegionData.{region_data}
use Rattle.zarrs_codec_shard.specs.ShardIndex.{range_part}
use Rattle.zarrs_codec_shard.specs.SubchunkData.{chunk_shape, subchunk_shape}
use Rattle.zarrs_codec.specs.Chains.{chain_meaning, inner_chain_of}
use Rattle.zarrs_codec.specs.Shardings.{HasFirstCells}
use Rattle.zarrs_codec.proofs.+decode.Given as goal

abbrev pub invariant-sharding::ShardingCodec::decode_parts-loop-number : goal.invariant-sharding::ShardingCodec::decode_parts-loop-number
invariant-sharding::ShardingCodec::decode_parts-loop-number l =
    let k = kind_of l.cell_type in
    HasFirstCells (chain_meaning (inner_chain_of l.self)) k (filling l.cell_type) (chunk_shape l.subchunks) (subchunk_shape l.subchunks)
    (map (range_part l.encoded) l.ranges) l.number (region_data l.chunk)
