-- The codec `reshape`.
use Rattle.std.specs.Prelude.{List}
use Rattle.zarrs_codec_array.specs.Arrays.{Extent}
use Rattle.zarrs_codec_array.specs.Extents.{extents_view}
use Rattle.zarrs_codec_array.specs.declared.reshape.ReshapeCodec.{ReshapeCodec}

-- the entries of a codec
abbrev pub entries_of : ReshapeCodec → List Extent
entries_of codec = extents_view codec.entries.items
