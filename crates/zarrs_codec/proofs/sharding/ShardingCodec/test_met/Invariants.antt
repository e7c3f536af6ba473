use Rattle.zarrs_data_type.specs.CellTypes.{filling, kind_of}
use Rattle.zarrs_subset.specs.Regions.{box_of}
use Rattle.zarrs_codec_shard.specs.SubchunkData.{chunk_shape, subchunk_shape}
use Rattle.zarrs_codec.specs.Chains.{chain_meaning, inner_chain_of}
use Rattle.zarrs_codec.specs.PartialShardings.{ArePassed}
use Rattle.zarrs_codec.specs.ShardUpdates.{parts_in}
use Rattle.zarrs_codec.proofs.sharding.ShardingCodec.test_met.Given as goal

abbrev pub invariant-loop-number : goal.invariant-loop-number
invariant-loop-number l =
    let u = l.update in
    ArePassed (chain_meaning (inner_chain_of l.self)) (kind_of u.cell_type.now) (filling u.cell_type.now) (chunk_shape u.subchunks) (subchunk_shape u.subchunks) (box_of u.part.now) (parts_in u) l.number
