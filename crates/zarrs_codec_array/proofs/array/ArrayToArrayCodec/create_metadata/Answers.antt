use Rattle.std.proofs.lemmas.Result.{IfOk-weaker}
use Rattle.serde_json.specs.View.{view}
use Rattle.zarrs_codec_array.proofs.MetadataLaws.{reshape_written}
use Rattle.zarrs_codec_array.proofs.array.ArrayToArrayCodec.create_metadata.Goals as goal

pub returns-in_ok-shape-in-Reshape-clause-reads_back : goal.returns-in_ok-shape-in-Reshape-clause-reads_back
returns-in_ok-shape-in-Reshape-clause-reads_back c =
    IfOk-weaker c.with_one_member-in-Reshape.result _ _
    (λ m is. reshape_written c.args.self.now c.in-Reshape.codec c.entries.result.now (view c.in_ok-shape-in-Reshape.shape) _ c.in-Reshape.is c.entries.ensures c.in_ok-shape-in-Reshape.ensures is)
    c.with_one_member-in-Reshape.ensures
