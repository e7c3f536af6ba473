use Rattle.zarrs_data_type.specs.CellTypes.{filling, kind_of}
use Rattle.zarrs_data_type.specs.ArrayData.{data_of}
use Rattle.zarrs_codec_shard.specs.SubchunkData.{chunk_shape, subchunk_shape}
use Rattle.zarrs_codec.specs.Chains.{chain_meaning, inner_chain_of, is_at_start, location_of}
use Rattle.zarrs_codec_chain.specs.Options.{stores_empty_chunks}
use Rattle.zarrs_codec.specs.Shardings.{cells_of, subchunk_meaning, HasFirstParts}
use Rattle.zarrs_codec.proofs.+encode.Given as goal

abbrev pub invariant-sharding::ShardingCodec::encode_parts-loop-number : goal.invariant-sharding::ShardingCodec::encode_parts-loop-number
invariant-sharding::ShardingCodec::encode_parts-loop-number l =
    let k = kind_of l.cell_type in
    let f = filling l.cell_type in
    let empty = stores_empty_chunks l.options in
    HasFirstParts (subchunk_meaning (chain_meaning (inner_chain_of l.self)) empty k f (subchunk_shape l.subchunks)) (is_at_start (location_of l.self)) empty f (chunk_shape l.subchunks) (subchunk_shape l.subchunks)
    (cells_of k (data_of l.bytes)) l.count l.number l.writer
