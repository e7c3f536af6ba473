-- The laws of codecs that look at cells alone.
use Rattle.zarrs_codec_leaf.specs.BytesLaws.{bytes-lawful}
use Rattle.zarrs_codec_leaf.specs.Leaf.{IsLawfulLeaf}
use Rattle.zarrs_codec_leaf.specs.PackBitsLaws.{packbits-lawful}
use Rattle.zarrs_codec_optional.specs.Configurations.{MaskCodecData, byte_mask, packed_mask, CellsCodecData, plain, optional}
use Rattle.zarrs_codec_optional.specs.Configurations.{meaning_of_mask_codec, meaning_of_cells_codec}
use Rattle.zarrs_codec_optional.specs.OptionalLaws.{optional-lawful}
use Rattle.zarrs_codec_optional.specs.PlainCodecs.{plain-lawful}

pub mask-lawful : (m : MaskCodecData) → IsLawfulLeaf (meaning_of_mask_codec m)
mask-lawful (byte_mask endian) = bytes-lawful endian
mask-lawful packed_mask = packbits-lawful

pub cells-lawful : (c : CellsCodecData) → IsLawfulLeaf (meaning_of_cells_codec c)
cells-lawful (plain codec) = plain-lawful codec
cells-lawful (optional mask inner) = optional-lawful (meaning_of_mask_codec mask) (meaning_of_cells_codec inner) (mask-lawful mask) (cells-lawful inner)
