-- The codec `transpose`.
use Rattle.std.specs.Prelude.{ℕ, List}
use Rattle.zarrs_codec_array.specs.declared.transpose.TransposeCodec.{TransposeCodec}

-- the order of a codec
abbrev pub order_of : TransposeCodec → List ℕ
order_of codec = codec.order.items
