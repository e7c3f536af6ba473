-- The codecs of plain cells, which hold no other codecs: the one list of their configurations, meanings, laws and metadata.
use Rattle.std.specs.Prelude.{ℕ, Bool, List, [], ◌||◌, codes, if◌then◌else◌, Option, Some, None, option_map}
use Rattle.std.specs.Str.{bytes_eq}
use Rattle.serde_json.specs.Data.{Members}
use Rattle.zarrs_metadata_parts.specs.Extension.{ExtensionData, named}
use Rattle.zarrs_metadata_parts.specs.Members.{has_only}
use Rattle.zarrs_data_type.specs.Kind.{Kind}
use Rattle.zarrs_data_type.specs.Kind as type
use Rattle.zarrs_codec_leaf.specs.Bytes.{bytes_meaning_of, endian_of}
use Rattle.zarrs_codec_leaf.specs.BytesLaws.{bytes-lawful}
use Rattle.zarrs_codec_leaf.specs.Leaf.{IsLawfulLeaf, LeafMeaning}
use Rattle.zarrs_codec_leaf.specs.PackBits.{packbits_meaning}
use Rattle.zarrs_codec_leaf.specs.PackBitsLaws.{packbits-lawful}
use Rattle.zarrs_codec_leaf.specs.Vlen.{vlen_meaning}
use Rattle.zarrs_codec_leaf.specs.VlenLaws.{vlen-lawful}
use Rattle.zarrs_codec_leaf.specs.VlenStrings.{vlen_utf8_meaning, vlen_bytes_meaning}
use Rattle.zarrs_codec_leaf.specs.VlenStringsLaws.{vlen_utf8-lawful, vlen_bytes-lawful}
use Rattle.zarrs_codec_leaf.specs.declared.bytes_codec.Endianness.{Endianness}
use Rattle.zarrs_codec_leaf.specs.declared.bytes_codec.Endianness.TheVariants.{Little}
use Rattle.zarrs_codec_optional.specs.BytesMetadata.{endian_from, extension_of_bytes}
use Rattle.zarrs_codec_optional.specs.PackBitsMetadata.{packbits_said}
use Rattle.zarrs_codec_optional.specs.VlenMetadata.{vlen_said, extension_of_vlen}
use Rattle.zarrs_codec_optional.specs.declared.plain.PlainCodec.{PlainCodec}
use Rattle.zarrs_codec_optional.specs.declared.plain.PlainCodec.TheVariants as codec

-- a codec of plain cells with its configuration
pub data PlainCodecData : Type 0 where
  bytes : Option Endianness → PlainCodecData
  packbits : PlainCodecData
  vlen_utf8 : PlainCodecData
  vlen_bytes : PlainCodecData
  vlen : PlainCodecData

-- the configuration of the code's codec
abbrev pub plain_codec_data : PlainCodec → PlainCodecData
plain_codec_data (codec.Bytes c) = bytes (endian_of c)
plain_codec_data (codec.PackBits c) = packbits
plain_codec_data (codec.VlenUtf8 c) = vlen_utf8
plain_codec_data (codec.VlenBytes c) = vlen_bytes
plain_codec_data (codec.Vlen c) = vlen

-- what such a codec means
abbrev pub meaning_of_plain_codec : PlainCodecData → LeafMeaning
meaning_of_plain_codec (bytes endian) = bytes_meaning_of endian
meaning_of_plain_codec packbits = packbits_meaning
meaning_of_plain_codec vlen_utf8 = vlen_utf8_meaning
meaning_of_plain_codec vlen_bytes = vlen_bytes_meaning
meaning_of_plain_codec vlen = vlen_meaning

pub plain-lawful : (c : PlainCodecData) → IsLawfulLeaf (meaning_of_plain_codec c)
plain-lawful (bytes endian) = bytes-lawful endian
plain-lawful packbits = packbits-lawful
plain-lawful vlen_utf8 = vlen_utf8-lawful
plain-lawful vlen_bytes = vlen_bytes-lawful
plain-lawful vlen = vlen-lawful

abbrev said_if : Bool → PlainCodecData → Option PlainCodecData
said_if said c = if said then Some c else None

-- the codec of this name, with this configuration
abbrev pub plain_codec_named : List ℕ → Members → Option PlainCodecData
plain_codec_named name ms =
    if bytes_eq name (codes "bytes") then option_map bytes (endian_from ms)
    else if bytes_eq name (codes "packbits") then said_if (packbits_said ms) packbits
    else if bytes_eq name (codes "vlen-utf8") then said_if (has_only [] ms) vlen_utf8
    else if bytes_eq name (codes "vlen-bytes") then said_if (has_only [] ms) vlen_bytes
    else if bytes_eq name (codes "zarrs.vlen") || bytes_eq name (codes "vlen") then said_if (vlen_said ms) vlen
    else None

-- what is written for a codec
abbrev pub extension_of_plain_codec : PlainCodecData → ExtensionData
extension_of_plain_codec (bytes endian) = extension_of_bytes endian
extension_of_plain_codec packbits = named (codes "packbits")
extension_of_plain_codec vlen_utf8 = named (codes "vlen-utf8")
extension_of_plain_codec vlen_bytes = named (codes "vlen-bytes")
extension_of_plain_codec vlen = extension_of_vlen

-- the codec of a type that is not optional, if none is named: `vlen-utf8` for texts, `vlen-bytes` for byte strings, and
-- `bytes`, little endian, for any other type
abbrev pub default_plain_codec : Kind → PlainCodecData
default_plain_codec type.string = vlen_utf8
default_plain_codec type.bytes = vlen_bytes
default_plain_codec _ = bytes (Some Little)
