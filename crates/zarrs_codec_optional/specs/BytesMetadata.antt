-- The metadata of the codec `bytes`: the configuration that says it, and what is written.
use Rattle.std.specs.Prelude.{ℕ, List, [], ◌∷◌, Bool, ◌&&◌, codes, if◌then◌else◌, Option, Some, None}
use Rattle.std.specs.Prelude.{option_map, option_and_then}
use Rattle.std.specs.Str.{bytes_eq}
use Rattle.serde_json.specs.Data.{Data, string, Members}
use Rattle.serde_json.specs.Find.{get_member, as_str}
use Rattle.zarrs_metadata_parts.specs.Extension.{ExtensionData, named, settings, extension_with_member}
use Rattle.zarrs_metadata_parts.specs.Members.{has_only}
use Rattle.zarrs_codec_leaf.specs.declared.bytes_codec.Endianness.{Endianness}
use Rattle.zarrs_codec_leaf.specs.declared.bytes_codec.Endianness.TheVariants.{Little, Big}
use Rattle.zarrs_codec_optional.specs.Sole.{sole_codec}
use Rattle.zarrs_codec_optional.specs.Texts.{is_text, passes}

-- the endian of a text
abbrev pub endian_named : List ℕ → Option Endianness
endian_named text = if bytes_eq text (codes "little") then Some Little else (if bytes_eq text (codes "big") then Some Big else None)

-- the endian of a member, or none if it is absent
abbrev pub endian_said : Option Data → Option (Option Endianness)
endian_said None = Some None
endian_said (Some value) = option_map Some (option_and_then endian_named (as_str value))

-- the endian of a configuration that has no other member
abbrev pub endian_from : Members → Option (Option Endianness)
endian_from ms = if has_only (codes "endian" ∷ []) ms then endian_said (get_member (codes "endian") ms) else None

-- the codec `bytes`, little endian
abbrev pub is_little_bytes : ExtensionData → Bool
is_little_bytes e =
    bytes_eq e.name (codes "bytes")
    && (has_only (codes "endian" ∷ []) (settings e) && is_text (codes "little") (get_member (codes "endian") (settings e)))

-- a list of the codec `bytes` alone, little endian
abbrev pub are_little_bytes : Option Data → Bool
are_little_bytes list = passes is_little_bytes (sole_codec list)

-- the codec `bytes` without configuration
abbrev pub is_plain_bytes : ExtensionData → Bool
is_plain_bytes e = bytes_eq e.name (codes "bytes") && has_only [] (settings e)

-- ---- what is written

abbrev pub endian_name : Endianness → List ℕ
endian_name Little = codes "little"
endian_name Big = codes "big"

abbrev pub extension_of_bytes : Option Endianness → ExtensionData
extension_of_bytes None = named (codes "bytes")
extension_of_bytes (Some endian) = extension_with_member (codes "bytes") (codes "endian") (string (endian_name endian))
