-- The metadata of codecs that look at cells alone: what is read from it, and what is written for one.
use Rattle.std.specs.Prelude.{ℕ, zero, suc, true, [], ◌∷◌, codes, if◌then◌else◌, Option, Some, None}
use Rattle.std.specs.Prelude.{option_map, option_and_then}
use Rattle.serde_json.specs.Data.{Members, no_members, member}
use Rattle.serde_json.specs.Find.{get_member}
use Rattle.zarrs_metadata_parts.specs.Extension.{ExtensionData, settings, named, ◌>>=◌}
use Rattle.zarrs_metadata_parts.specs.Members.{has_only}
use Rattle.zarrs_data_type.specs.Kind.{Kind}
use Rattle.zarrs_data_type.specs.Kind as type
use Rattle.zarrs_data_type.specs.TypeMetadata.{is_optional_name, levels_in}
use Rattle.zarrs_codec_optional.specs.BytesMetadata.{extension_of_bytes}
use Rattle.zarrs_codec_optional.specs.Configurations.{MaskCodecData, byte_mask, packed_mask, CellsCodecData, plain, optional}
use Rattle.zarrs_codec_optional.specs.PlainCodecs.{PlainCodecData, bytes, packbits, default_plain_codec}
use Rattle.zarrs_codec_optional.specs.PlainCodecs.{extension_of_plain_codec, plain_codec_named}
use Rattle.zarrs_codec_optional.specs.Sole.{sole_codec, list_of_one}

-- ---- what metadata says

-- a codec of plain cells
abbrev pub plain_said : ExtensionData → Option CellsCodecData
plain_said e = option_map plain (plain_codec_named e.name (settings e))

-- a codec of a mask
abbrev pub as_mask : PlainCodecData → Option MaskCodecData
as_mask (bytes endian) = Some (byte_mask endian)
as_mask packbits = Some packed_mask
as_mask _ = None

abbrev pub mask_codec_said : ExtensionData → Option MaskCodecData
mask_codec_said e = option_and_then as_mask (plain_codec_named e.name (settings e))

-- the codecs for the mask and for the data, each the only one of its list
abbrev pub optional_parts : Members → Option (ExtensionData × ExtensionData)
optional_parts ms =
    if has_only (codes "data_codecs" ∷ codes "mask_codecs" ∷ []) ms then (do
      mask ← sole_codec (get_member (codes "mask_codecs") ms)
      data_codec ← sole_codec (get_member (codes "data_codecs") ms)
      Some (mask, data_codec)) else None

abbrev pub optional_said : Option MaskCodecData → Option CellsCodecData → Option CellsCodecData
optional_said mask inner = do
  m ← mask
  d ← inner
  Some (optional m d)

-- the codec that an extension point says, within this number of levels of codecs
abbrev pub cells_codec_within : ℕ → ExtensionData → Option CellsCodecData
cells_codec_within zero e = None
cells_codec_within (suc levels) e =
    if is_optional_name e.name
    then option_and_then (λ p. optional_said (mask_codec_said p.0) (cells_codec_within levels p.1)) (optional_parts (settings e))
    else plain_said e

-- the codec that metadata says
abbrev pub cells_codec_said : ExtensionData → Option CellsCodecData
cells_codec_said e = cells_codec_within (suc (levels_in (settings e))) e

-- ---- what a builder takes if it is given none

-- `zarrs.optional` with `packbits` and the codec of its inner type for an optional type, a codec of plain cells for another
abbrev pub default_cells_codec : Kind → CellsCodecData
default_cells_codec (type.optional inner) = optional packed_mask (default_cells_codec inner)
default_cells_codec k = plain (default_plain_codec k)

-- ---- what is written for a chain

abbrev pub extension_of_mask_codec : MaskCodecData → ExtensionData
extension_of_mask_codec (byte_mask endian) = extension_of_bytes endian
extension_of_mask_codec packed_mask = named (codes "packbits")

-- `zarrs.optional` with these codecs for the mask and for the data
abbrev pub optional_extension : ExtensionData → ExtensionData → ExtensionData
optional_extension mask inner = record {
  name = codes "zarrs.optional";
  configuration = Some
      (member (codes "data_codecs") (list_of_one inner)
      (member (codes "mask_codecs") (list_of_one mask) no_members));
  must_understand = true;
}

abbrev pub extension_of_cells_codec : CellsCodecData → ExtensionData
extension_of_cells_codec (plain codec) = extension_of_plain_codec codec
extension_of_cells_codec (optional mask inner) = optional_extension (extension_of_mask_codec mask) (extension_of_cells_codec inner)
