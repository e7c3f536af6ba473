use Rattle.std.proofs.Common.{ap, ◌∙◌}
use Rattle.zarrs_codec.specs.Metadata.{bytes_codec_said}
use Rattle.zarrs_codec.proofs.ChainMetadata.{bytes_codec_back}
use Rattle.zarrs_codec.proofs.codec.ArrayToBytesCodec.create_metadata.Goals as goal

pub returns-clause-reads_back : goal.returns-clause-reads_back
returns-clause-reads_back c = ap bytes_codec_said c.in_ok-metadata.ensures ∙ bytes_codec_back c.args.self.now
