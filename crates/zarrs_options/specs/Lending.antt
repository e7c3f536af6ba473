-- Options of which a part is lent.
use Rattle.std.specs.Borrow.{Lends, MutBor, Fml}
use Rattle.zarrs_codec_chain.specs.contracts.options.CodecMetadataOptions.{the_row as codec_row}
use Rattle.zarrs_codec_chain.specs.declared.options.CodecMetadataOptions.{CodecMetadataOptions}
use Rattle.zarrs_options.specs.contracts.options.ArrayMetadataOptions.{the_row}
use Rattle.zarrs_options.specs.declared.options.ArrayMetadataOptions.{ArrayMetadataOptions}

-- the options with these ones of the metadata of the codecs
abbrev pub with_codec_metadata : ArrayMetadataOptions → CodecMetadataOptions → ArrayMetadataOptions
with_codec_metadata o codec_options = record o { codec_metadata_options = codec_options }

-- once the borrow ends, the options have those of the codecs last left behind it, and else what they had
abbrev pub LendsCodecOptions : MutBor ArrayMetadataOptions → MutBor CodecMetadataOptions → Fml
LendsCodecOptions o codec_options = Lends the_row codec_row o codec_options (with_codec_metadata o.now)
