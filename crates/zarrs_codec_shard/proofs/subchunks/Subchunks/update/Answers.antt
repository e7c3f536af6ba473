use Rattle.std.proofs.Common.{subst}
use Rattle.std.proofs.lemmas.Result.{IfOk-weaker}
use Rattle.zarrs_data_type.specs.ArrayData.{data_of}
use Rattle.zarrs_data_type.specs.Parts.{TakesCells}
use Rattle.zarrs_subset.specs.Regions.{box_of}
use Rattle.zarrs_data_type.specs.Kind.{kind}
use Rattle.zarrs_codec_shard.specs.SubchunkData.{chunk_shape, subchunk_shape}
use Rattle.zarrs_codec_shard.proofs.SubchunkCells.{updates_subchunk}
use Rattle.zarrs_codec_shard.proofs.subchunks.Subchunks.update.Goals as goal

pub returns : goal.returns
returns c =
    let self = c.args.self.now in
    let s = chunk_shape self in
    let sub = subchunk_shape self in
    let k = kind c.args.data_type.now in
    let part = box_of c.args.part.now in
    let given = data_of c.args.bytes.now in
    let old = data_of c.args.held in
    IfOk-weaker c.update_array_bytes.result _ _
    (λ made x. updates_subchunk k s sub c.args.number self.cut c.requires.number part given old (data_of made) c.requires.held
    (subst (λ box. TakesCells k box part given old (data_of made)) c.in_ok-subset.ensures x))
    c.update_array_bytes.ensures
