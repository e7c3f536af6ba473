-- The metadata of a chunk key encoding: what is read from it, and what is written for one.
use Rattle.std.specs.Prelude.{ℕ, List, [], ◌∷◌, true, ◌||◌, codes, if◌then◌else◌, Option, Some, None, option_map, option_and_then}
use Rattle.std.specs.Str.{bytes_eq}
use Rattle.serde_json.specs.Data.{Data, string, Members, no_members, member}
use Rattle.serde_json.specs.Find.{get_member, as_str}
use Rattle.zarrs_metadata_parts.specs.Extension.{ExtensionData, settings, ◌>>=◌}
use Rattle.zarrs_metadata_parts.specs.Members.{has_only}
use Rattle.zarrs_metadata_parts.specs.Separator.{separator_of, separator_data}
use Rattle.zarrs_metadata_parts.specs.declared.separators.ChunkKeySeparator.{ChunkKeySeparator}
use Rattle.zarrs_metadata_parts.specs.declared.separators.ChunkKeySeparator.TheVariants.{Slash, Dot}
use Rattle.zarrs_keys.specs.Keys.{is_suffix}
use Rattle.zarrs_keys.specs.declared.encodings.ChunkKeyEncoding.{ChunkKeyEncoding}
use Rattle.zarrs_keys.specs.declared.encodings.ChunkKeyEncoding.TheVariants.{Default, V2, DefaultSuffix}

-- ---- what metadata says

-- the separator of a member, or the one that an absent member means
abbrev pub separator_or : ChunkKeySeparator → Option Data → Option ChunkKeySeparator
separator_or absent None = Some absent
separator_or absent (Some value) = separator_of value

-- the member `separator` of a configuration, or the one that an absent member means
abbrev pub separator_in : ChunkKeySeparator → Members → Option ChunkKeySeparator
separator_in absent configuration = separator_or absent (get_member (codes "separator") configuration)

-- the text, if it is a suffix
abbrev pub suffix_named : List ℕ → Option (List ℕ)
suffix_named text = if is_suffix text then Some text else None

-- the member `suffix` of a configuration
abbrev pub suffix_in : Members → Option (List ℕ)
suffix_in configuration = option_and_then suffix_named (option_and_then as_str (get_member (codes "suffix") configuration))

-- the separator of a configuration that has no other member
abbrev pub separator_alone : ChunkKeySeparator → Members → Option ChunkKeySeparator
separator_alone absent configuration = if has_only (codes "separator" ∷ []) configuration then separator_in absent configuration else None

-- the `default_suffix` encoding; an absent separator is `/`, and the suffix is not absent
abbrev pub default_suffix_of : Members → Option ChunkKeyEncoding
default_suffix_of configuration =
    if has_only (codes "separator" ∷ codes "suffix" ∷ []) configuration then (do
      separator ← separator_in Slash configuration
      suffix ← suffix_in configuration
      Some (DefaultSuffix separator suffix)) else None

-- The encoding of this name, with this configuration. An absent separator is `/` under `default`, and `.` under `v2`.
abbrev pub encoding_named : List ℕ → Members → Option ChunkKeyEncoding
encoding_named name configuration =
    if bytes_eq name (codes "default") then option_map Default (separator_alone Slash configuration)
    else if bytes_eq name (codes "v2") then option_map V2 (separator_alone Dot configuration)
    else if bytes_eq name (codes "default_suffix") || bytes_eq name (codes "zarrs.default_suffix") then default_suffix_of configuration
    else None

-- the encoding that metadata says
abbrev pub key_encoding_of : ExtensionData → Option ChunkKeyEncoding
key_encoding_of extension = encoding_named extension.name (settings extension)

-- ---- what is written for an encoding

-- a name with a configuration, to be understood
abbrev pub configured : List ℕ → Members → ExtensionData
configured name configuration = record { name = name; configuration = Some configuration; must_understand = true }

-- the member `separator`, before others
abbrev pub separator_member : ChunkKeySeparator → Members → Members
separator_member separator others = member (codes "separator") (separator_data separator) others

-- the metadata of an encoding; the separator is always written
abbrev pub extension_of_encoding : ChunkKeyEncoding → ExtensionData
extension_of_encoding (Default separator) = configured (codes "default") (separator_member separator no_members)
extension_of_encoding (V2 separator) = configured (codes "v2") (separator_member separator no_members)
extension_of_encoding (DefaultSuffix separator suffix) =
    configured (codes "default_suffix") (separator_member separator (member (codes "suffix") (string suffix) no_members))
