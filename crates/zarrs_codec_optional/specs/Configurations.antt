-- The codecs that look at cells alone by what configures them, and what each means.
use Rattle.std.specs.Prelude.{Option}
use Rattle.zarrs_codec_leaf.specs.Bytes.{bytes_meaning_of}
use Rattle.zarrs_codec_leaf.specs.Leaf.{LeafMeaning}
use Rattle.zarrs_codec_leaf.specs.PackBits.{packbits_meaning}
use Rattle.zarrs_codec_leaf.specs.declared.bytes_codec.Endianness.{Endianness}
use Rattle.zarrs_codec_optional.specs.Optional.{optional_meaning}
use Rattle.zarrs_codec_optional.specs.PlainCodecs.{PlainCodecData, meaning_of_plain_codec}

-- the codec of a mask with its configuration
pub data MaskCodecData : Type 0 where
  byte_mask : Option Endianness → MaskCodecData
  packed_mask : MaskCodecData

-- a codec with its configuration
pub data CellsCodecData : Type 0 where
  plain : PlainCodecData → CellsCodecData
  optional : (mask : MaskCodecData) → (inner : CellsCodecData) → CellsCodecData

-- what the codec of a mask means
abbrev pub meaning_of_mask_codec : MaskCodecData → LeafMeaning
meaning_of_mask_codec (byte_mask endian) = bytes_meaning_of endian
meaning_of_mask_codec packed_mask = packbits_meaning

-- what a codec means
abbrev pub meaning_of_cells_codec : CellsCodecData → LeafMeaning
meaning_of_cells_codec (plain codec) = meaning_of_plain_codec codec
meaning_of_cells_codec (optional mask inner) = optional_meaning (meaning_of_mask_codec mask) (meaning_of_cells_codec inner)
