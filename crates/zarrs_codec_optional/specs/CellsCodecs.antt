-- What codecs that look at cells alone mean.
use Rattle.zarrs_codec_leaf.specs.Bytes.{endian_of}
use Rattle.zarrs_codec_leaf.specs.Leaf.{LeafMeaning}
use Rattle.zarrs_codec_optional.specs.Configurations.{MaskCodecData, byte_mask, packed_mask, CellsCodecData, plain, optional}
use Rattle.zarrs_codec_optional.specs.Configurations.{meaning_of_mask_codec, meaning_of_cells_codec}
use Rattle.zarrs_codec_optional.specs.PlainCodecs.{plain_codec_data}
use Rattle.zarrs_codec_optional.specs.declared.codec.CellsCodec.{CellsCodec}
use Rattle.zarrs_codec_optional.specs.declared.codec.CellsCodec as codec
use Rattle.zarrs_codec_optional.specs.declared.optional.MaskCodec.{MaskCodec}
use Rattle.zarrs_codec_optional.specs.declared.optional.MaskCodec.TheVariants as mask
use Rattle.zarrs_codec_optional.specs.declared.optional.OptionalCodec.{OptionalCodec}

-- the parts of an optional codec
abbrev pub mask_codec_of : OptionalCodec → MaskCodec
mask_codec_of codec = codec.mask

abbrev pub data_codec_of : OptionalCodec → CellsCodec
data_codec_of codec = codec.data.value

-- the configurations of the code's codecs
abbrev pub mask_codec_data : MaskCodec → MaskCodecData
mask_codec_data (mask.PackBits c) = packed_mask
mask_codec_data (mask.Bytes c) = byte_mask (endian_of c)

abbrev pub cells_codec_data : CellsCodec → CellsCodecData
cells_codec_data (codec.Plain c) = plain (plain_codec_data c)
cells_codec_data (codec.Optional' flags p inner) = optional (mask_codec_data flags) (cells_codec_data inner)

abbrev pub optional_codec_data : OptionalCodec → CellsCodecData
optional_codec_data c = optional (mask_codec_data (mask_codec_of c)) (cells_codec_data (data_codec_of c))

-- what the codec of a mask means
abbrev pub mask_meaning : MaskCodec → LeafMeaning
mask_meaning c = meaning_of_mask_codec (mask_codec_data c)

-- what a codec of cells means
abbrev pub cells_meaning : CellsCodec → LeafMeaning
cells_meaning c = meaning_of_cells_codec (cells_codec_data c)

-- what a codec of optional cells means
abbrev pub optional_meaning_of : OptionalCodec → LeafMeaning
optional_meaning_of c = meaning_of_cells_codec (optional_codec_data c)
