-- The metadata of data types: what is read from it, and what is written for one.
use Rattle.std.specs.Prelude.{ℕ, zero, suc, ◌*◌, ◌/◌, ◌%◌, ◌^◌, nat_lt, nat_le, ◌==◌, ◌&&◌, ◌||◌, List, [], ◌∷◌, Bool}
use Rattle.std.specs.Prelude.{true, codes, if◌then◌else◌, Option, None, Some, option_map, option_and_then}
use Rattle.std.specs.Fmt.{decimal}
use Rattle.std.specs.Str.{bytes_eq}
use Rattle.std.specs.Str.Parse.{digits_value}
use Rattle.serde_json.specs.Data.{Data, string, Members, no_members, member, members_depth}
use Rattle.serde_json.specs.Find.{get_member, as_str, as_object}
use Rattle.zarrs_metadata_parts.specs.Extension.{ExtensionData, settings, named, with_configuration, ◌>>=◌}
use Rattle.zarrs_metadata_parts.specs.Members.{has_only}
use Rattle.zarrs_data_type_kinds.specs.Kind.{Kind}
use Rattle.zarrs_data_type_kinds.specs.Kind as type

-- ---- what metadata says

-- the number of 32 bits that has this text as its decimal
abbrev pub number_said : List ℕ → Option ℕ
number_said text =
    if nat_lt (digits_value 10 text) (2 ^ 32) && bytes_eq (decimal (digits_value 10 text)) text then Some (digits_value 10 text) else None

-- the size in bytes of this number of bits: a whole number of bytes from 1 to 65,536
abbrev pub size_of_bits : ℕ → Option ℕ
size_of_bits bits = if (bits % 8 == 0) && (nat_lt 0 bits && nat_le bits 524288) then Some (bits / 8) else None

-- the size of the raw type of this name: `r` and the number of bits
abbrev pub raw_size : List ℕ → Option ℕ
raw_size [] = None
raw_size (first ∷ digits) = if first == 114 then option_and_then size_of_bits (number_said digits) else None

-- the type of this name, if it is not optional
abbrev pub plain_kind : List ℕ → Option Kind
plain_kind name =
    if bytes_eq name (codes "bool") then Some type.bool
    else if bytes_eq name (codes "int8") then Some type.int8
    else if bytes_eq name (codes "int16") then Some type.int16
    else if bytes_eq name (codes "int32") then Some type.int32
    else if bytes_eq name (codes "int64") then Some type.int64
    else if bytes_eq name (codes "uint8") then Some type.uint8
    else if bytes_eq name (codes "uint16") then Some type.uint16
    else if bytes_eq name (codes "uint32") then Some type.uint32
    else if bytes_eq name (codes "uint64") then Some type.uint64
    else if bytes_eq name (codes "string") then Some type.string
    else if bytes_eq name (codes "bytes") || bytes_eq name (codes "variable_length_bytes") then Some type.bytes
    else option_map type.raw (raw_size name)

abbrev pub is_optional_name : List ℕ → Bool
is_optional_name name = bytes_eq name (codes "zarrs.optional") || bytes_eq name (codes "optional")

-- an absent configuration is none
abbrev pub type_configuration_said : Option Data → Option (Option Members)
type_configuration_said None = Some None
type_configuration_said (Some d) = option_map Some (as_object d)

-- the inner type in the configuration of an optional type: its name and, if it has one, its configuration
abbrev pub inner_extension : Members → Option ExtensionData
inner_extension ms =
    if has_only (codes "name" ∷ codes "configuration" ∷ []) ms then (do
      n ← option_and_then as_str (get_member (codes "name") ms)
      c ← type_configuration_said (get_member (codes "configuration") ms)
      Some (record { name = n; configuration = c; must_understand = true })) else None

-- the type that an extension point says, within this number of levels of types; one that is not optional has no
-- configuration
abbrev pub kind_within : ℕ → ExtensionData → Option Kind
kind_within zero e = None
kind_within (suc levels) e =
    if is_optional_name e.name then option_map type.optional (option_and_then (λ i. kind_within levels i) (inner_extension (settings e)))
    else if has_only [] (settings e) then plain_kind e.name
    else None

-- how many levels of types a configuration can hold: no more than its JSON has
abbrev pub levels_in : Members → ℕ
levels_in no_members = 0
levels_in (member key d ms) = suc (members_depth (member key d ms))

-- the data type that metadata says
abbrev pub kind_of : ExtensionData → Option Kind
kind_of e = kind_within (suc (levels_in (settings e))) e

-- ---- what is written for a type

abbrev pub kind_name : Kind → List ℕ
kind_name type.bool = codes "bool"
kind_name type.int8 = codes "int8"
kind_name type.int16 = codes "int16"
kind_name type.int32 = codes "int32"
kind_name type.int64 = codes "int64"
kind_name type.uint8 = codes "uint8"
kind_name type.uint16 = codes "uint16"
kind_name type.uint32 = codes "uint32"
kind_name type.uint64 = codes "uint64"
kind_name (type.raw size) = 114 ∷ decimal (size * 8)
kind_name type.string = codes "string"
kind_name type.bytes = codes "bytes"
kind_name (type.optional inner) = codes "zarrs.optional"

-- the configuration of an optional type is its inner type
abbrev pub inner_members : ExtensionData → Members
inner_members inner = with_configuration inner.configuration (member (codes "name") (string inner.name) no_members)

-- the metadata of a type
abbrev pub kind_extension : Kind → ExtensionData
kind_extension (type.optional inner) =
    record { name = kind_name (type.optional inner); configuration = Some (inner_members (kind_extension inner)); must_understand = true }
kind_extension k = named (kind_name k)

-- whether the metadata of the type is read again: a raw type has at most 65,536 bytes
abbrev pub is_readable : Kind → Bool
is_readable (type.raw size) = nat_lt 0 size && nat_le size 65536
is_readable (type.optional inner) = is_readable inner
is_readable _ = true
