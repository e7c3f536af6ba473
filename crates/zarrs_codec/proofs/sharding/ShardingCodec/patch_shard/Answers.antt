use Rattle.zarrs_data_type.specs.CellTypes.{filling, kind_of}
use Rattle.zarrs_data_type.specs.ArrayData.{data_of}
use Rattle.zarrs_subset.specs.Regions.{box_of}
use Rattle.zarrs_codec_shard.specs.SubchunkData.{chunk_shape, subchunk_shape}
use Rattle.zarrs_codec_chain.specs.Chain.{ChainMeaning}
use Rattle.zarrs_codec_chain.specs.Options.{stores_empty_chunks}
use Rattle.zarrs_codec_optional.proofs.Kept.{err_kept}
use Rattle.zarrs_codec.specs.Chains.{chain_meaning, inner_chain_of}
use Rattle.zarrs_codec.specs.ShardUpdates.{RefusesUpdate, parts_in}
use Rattle.zarrs_codec.proofs.Patches.{met_refused}
use Rattle.zarrs_codec.proofs.sharding.ShardingCodec.patch_shard.Goals as goal

pub returns-in_err-test_met-in-Err-SizeOverflow-clause-refused :
    goal.returns-in_err-test_met-in-Err-SizeOverflow-clause-refused
returns-in_err-test_met-in-Err-SizeOverflow-clause-refused c =
    let u = c.args.update.now in
    let k = kind_of u.cell_type.now in
    let f = filling u.cell_type.now in
    let m : ChainMeaning = chain_meaning (inner_chain_of c.args.self.now) in
    let s = chunk_shape u.subchunks in
    let sub = subchunk_shape u.subchunks in
    let e = c.in_err-test_met-in-Err-SizeOverflow.field-0.0 in
    err_kept c.from_residual.result e (RefusesUpdate m u) c.from_residual.ensures.1
    (met_refused m k f s sub (box_of u.part.now) (parts_in u) (stores_empty_chunks u.options.now) (data_of u.bytes.now) e c.in_err-test_met-in-Err-SizeOverflow.ensures.refused)
