-- What the text of a data type of Zarr V2 means, and its fill values as those of Zarr V3.
use Rattle.std.specs.Prelude.{ℕ, ℤ, pos, negsuc, int_le, nat_le, List, [], ◌∷◌, ◌&&◌, Bool, true, false, codes, bytes_eq, if◌then◌else◌}
use Rattle.std.specs.Prelude.{Option, Some, None, option_map, option_and_then, unwrap_or, is_some}
use Rattle.serde_json.specs.Data.{Num, Data, null, boolean, number, string, array, object}
use Rattle.serde_json.specs.Find.{as_u64, as_i64}
use Rattle.zarrs_metadata_parts.specs.Lists.{number_data}
use Rattle.zarrs_metadata_parts.specs.declared.types_v2.KindV2.{KindV2}
use Rattle.zarrs_metadata_parts.specs.declared.types_v2.KindV2.TheVariants as kind
use Rattle.zarrs_metadata_parts.specs.declared.types_v2.EndianV2.{EndianV2}
use Rattle.zarrs_metadata_parts.specs.declared.types_v2.EndianV2.TheVariants.{Little, Big}
use Rattle.zarrs_metadata_parts.specs.declared.types_v2.TypeV2.{TypeV2}

-- ---- data types

abbrev pub type_with : KindV2 → Option EndianV2 → TypeV2
type_with k e = record { kind = k; endian = e }

-- numbers of two bytes and more
abbrev pub wide_kind : List ℕ → Option KindV2
wide_kind text =
    if bytes_eq text (codes "i2") then Some kind.Int16
    else (if bytes_eq text (codes "i4") then Some kind.Int32
    else (if bytes_eq text (codes "i8") then Some kind.Int64
    else (if bytes_eq text (codes "u2") then Some kind.Uint16
    else (if bytes_eq text (codes "u4") then Some kind.Uint32
    else (if bytes_eq text (codes "u8") then Some kind.Uint64
    else None)))))

-- cells without an order of bytes
abbrev pub narrow_kind : List ℕ → Option KindV2
narrow_kind text =
    if bytes_eq text (codes "b1") then Some kind.Bool
    else (if bytes_eq text (codes "i1") then Some kind.Int8
    else (if bytes_eq text (codes "u1") then Some kind.Uint8
    else (if bytes_eq text (codes "O") then Some kind.Text
    else None)))

-- the type of a text: `<`, `>` or `|`, then the kind and the number of bytes
abbrev pub type_v2 : List ℕ → Option TypeV2
type_v2 [] = None
type_v2 (order ∷ rest) =
    if bytes_eq (order ∷ []) (codes "<") then option_map (λ k. type_with k (Some Little)) (wide_kind rest)
    else (if bytes_eq (order ∷ []) (codes ">") then option_map (λ k. type_with k (Some Big)) (wide_kind rest)
    else (if bytes_eq (order ∷ []) (codes "|") then option_map (λ k. type_with k None) (narrow_kind rest)
    else None))

-- the name of the type in Zarr V3
abbrev pub type_name_v3 : KindV2 → List ℕ
type_name_v3 kind.Bool = codes "bool"
type_name_v3 kind.Int8 = codes "int8"
type_name_v3 kind.Int16 = codes "int16"
type_name_v3 kind.Int32 = codes "int32"
type_name_v3 kind.Int64 = codes "int64"
type_name_v3 kind.Uint8 = codes "uint8"
type_name_v3 kind.Uint16 = codes "uint16"
type_name_v3 kind.Uint32 = codes "uint32"
type_name_v3 kind.Uint64 = codes "uint64"
type_name_v3 kind.Text = codes "string"

abbrev pub is_text_kind : KindV2 → Bool
is_text_kind kind.Text = true
is_text_kind kind.Bool = false
is_text_kind kind.Int8 = false
is_text_kind kind.Int16 = false
is_text_kind kind.Int32 = false
is_text_kind kind.Int64 = false
is_text_kind kind.Uint8 = false
is_text_kind kind.Uint16 = false
is_text_kind kind.Uint32 = false
is_text_kind kind.Uint64 = false

-- ---- fill values

-- null is false; 0 and 1 are false and true
abbrev pub bool_fill : Data → Option Data
bool_fill null = Some (boolean false)
bool_fill (boolean b) = Some (boolean b)
bool_fill (number n) = option_and_then (λ m. if nat_le m 1 then Some (boolean (nat_le 1 m)) else None) (as_u64 n)
bool_fill (string text) = None
bool_fill (array ds) = None
bool_fill (object ms) = None

-- a whole number from the first to the second
abbrev pub is_number_within : ℤ → ℤ → Num → Bool
is_number_within low high n = unwrap_or (option_map (λ z. int_le low z && int_le z high) (as_i64 n)) false

-- a whole number up to this one
abbrev pub is_up_to : ℕ → Num → Bool
is_up_to high n = unwrap_or (option_map (λ m. nat_le m high) (as_u64 n)) false

-- a number that the type holds
abbrev pub holds_number : KindV2 → Num → Bool
holds_number kind.Int8 n = is_number_within (negsuc 127) (pos 127) n
holds_number kind.Int16 n = is_number_within (negsuc 32767) (pos 32767) n
holds_number kind.Int32 n = is_number_within (negsuc 2147483647) (pos 2147483647) n
holds_number kind.Int64 n = is_some (as_i64 n)
holds_number kind.Uint8 n = is_up_to 255 n
holds_number kind.Uint16 n = is_up_to 65535 n
holds_number kind.Uint32 n = is_up_to 4294967295 n
holds_number kind.Uint64 n = is_some (as_u64 n)
holds_number kind.Bool n = false
holds_number kind.Text n = false

-- null is 0
abbrev pub number_fill : KindV2 → Data → Option Data
number_fill k null = Some (number_data 0)
number_fill k (number n) = if holds_number k n then Some (number n) else None
number_fill k (boolean b) = None
number_fill k (string text) = None
number_fill k (array ds) = None
number_fill k (object ms) = None

-- null and 0 are the empty text
abbrev pub text_fill : Data → Option Data
text_fill null = Some (string [])
text_fill (string text) = Some (string text)
text_fill (number n) = if is_up_to 0 n then Some (string []) else None
text_fill (boolean b) = None
text_fill (array ds) = None
text_fill (object ms) = None

-- the fill value of V3
abbrev pub fill_v3 : KindV2 → Data → Option Data
fill_v3 kind.Bool d = bool_fill d
fill_v3 kind.Text d = text_fill d
fill_v3 k d = number_fill k d
