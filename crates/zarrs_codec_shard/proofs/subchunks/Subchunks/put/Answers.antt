use Rattle.std.proofs.Common.{subst}
use Rattle.std.proofs.lemmas.Result.{IfOk-weaker}
use Rattle.zarrs_data_type.specs.ArrayData.{data_of}
use Rattle.zarrs_data_type.specs.Parts.{TakesCells}
use Rattle.zarrs_data_type.specs.RegionData.{region_data}
use Rattle.zarrs_subset.specs.Regions.{box_of}
use Rattle.zarrs_data_type.specs.Kind.{kind}
use Rattle.zarrs_codec_shard.specs.SubchunkData.{chunk_shape, subchunk_shape}
use Rattle.zarrs_codec_shard.specs.Subchunks.{subchunk_box}
use Rattle.zarrs_codec_shard.proofs.SubchunkCells.{puts_subchunk}
use Rattle.zarrs_codec_shard.proofs.subchunks.Subchunks.put.Goals as goal

pub returns : goal.returns
returns c =
    let self = c.args.self.now in
    let s = chunk_shape self in
    let sub = subchunk_shape self in
    let k = kind c.args.data_type.now in
    let part = data_of c.args.part.now in
    let old = region_data c.args.chunk in
    IfOk-weaker c.with_part.result _ _
    (λ made x. puts_subchunk k s sub c.args.number self.cut c.requires.number part old (region_data made)
    (subst (λ box. TakesCells k box (subchunk_box s sub c.args.number) part old (region_data made)) self.at_origin
    (subst (λ box. TakesCells k (box_of self.chunk_box) box part old (region_data made)) c.in_ok-subset.ensures x))
    c.requires.held c.requires.part)
    c.with_part.ensures
