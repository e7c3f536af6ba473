-- Fill values as metadata says them.
use Rattle.std.specs.Prelude.{ℕ, ℤ, pos, negsuc, int_le, nat_lt, nat_le, ◌==◌, ◌&&◌, List, [], ◌∷◌, ◌++◌, length}
use Rattle.std.specs.Prelude.{slice_index, if◌then◌else◌, Option, None, Some, option_map}
use Rattle.std.specs.Prelude.{option_and_then}
use Rattle.std.specs.Int.{w8, w16, w32, w64, cast_unsigned, cast_signed, to_le_bytes, from_le_bytes, from_bool}
use Rattle.std.specs.List.{list_all}
use Rattle.serde_json.specs.Data.{Data, null, boolean, number, string, array, unsigned, no_items, item}
use Rattle.serde_json.specs.Find.{as_bool, as_number, as_i64, as_str, of_integer}
use Rattle.zarrs_metadata_parts.specs.Lists.{sole_item, number_of, numbers_of, numbers_data}
use Rattle.zarrs_data_type_kinds.specs.Kind.{Kind}
use Rattle.zarrs_data_type_kinds.specs.Kind as type
use Rattle.zarrs_data_type_kinds.specs.Cell.{inner_fill}

-- ---- what metadata says

-- a whole number up to this one
abbrev pub unsigned_said : ℕ → Data → Option ℕ
unsigned_said high d = option_and_then (λ n. if nat_le n high then Some n else None) (number_of d)

-- a whole number from the first to the second
abbrev pub signed_said : ℤ → ℤ → Data → Option ℤ
signed_said low high d = option_and_then (λ z. if int_le low z && int_le z high then Some z else None) (option_and_then as_i64 (as_number d))

-- a list of bytes
abbrev pub bytes_said : Data → Option (List ℕ)
bytes_said d = option_and_then (λ b. if list_all (λ x. nat_lt x 256) b then Some b else None) (numbers_of d)

-- a list of `size` bytes
abbrev pub sized_said : ℕ → Data → Option (List ℕ)
sized_said size d = option_and_then (λ b. if length b == size then Some b else None) (bytes_said d)

-- the bytes of the cell of a type that is not optional; numbers are little endian
abbrev pub element_said : Kind → Data → Option (List ℕ)
element_said type.bool d = option_map (λ flag. from_bool flag ∷ []) (as_bool d)
element_said type.int8 d = option_map (λ z. cast_unsigned w8 z ∷ []) (signed_said (negsuc 127) (pos 127) d)
element_said type.int16 d = option_map (λ z. to_le_bytes w16 (cast_unsigned w16 z)) (signed_said (negsuc 32767) (pos 32767) d)
element_said type.int32 d = option_map (λ z. to_le_bytes w32 (cast_unsigned w32 z)) (signed_said (negsuc 2147483647) (pos 2147483647) d)
element_said type.int64 d = option_map (λ z. to_le_bytes w64 (cast_unsigned w64 z)) (option_and_then as_i64 (as_number d))
element_said type.uint8 d = option_map (λ n. n ∷ []) (unsigned_said 255 d)
element_said type.uint16 d = option_map (λ n. to_le_bytes w16 n) (unsigned_said 65535 d)
element_said type.uint32 d = option_map (λ n. to_le_bytes w32 n) (unsigned_said 4294967295 d)
element_said type.uint64 d = option_map (λ n. to_le_bytes w64 n) (number_of d)
element_said (type.raw size) d = sized_said size d
element_said type.string d = as_str d
element_said type.bytes d = bytes_said d
element_said (type.optional inner) d = None

-- the bytes of the fill value that a JSON value says: for an optional type null is none, and a list of one value is
-- some of what it says
abbrev pub fill_said : Kind → Data → Option (List ℕ)
fill_said (type.optional inner) null = Some (0 ∷ [])
fill_said (type.optional inner) (array ds) = option_and_then (λ d. option_map (λ b. b ++ 1 ∷ []) (fill_said inner d)) (sole_item ds)
fill_said (type.optional inner) d = None
fill_said k d = element_said k d

-- ---- what is written for a cell

abbrev pub element_data : Kind → List ℕ → Data
element_data type.bool b = boolean (slice_index b 0 == 1)
element_data type.int8 b = number (of_integer (cast_signed w8 (slice_index b 0)))
element_data type.int16 b = number (of_integer (cast_signed w16 (from_le_bytes w16 b)))
element_data type.int32 b = number (of_integer (cast_signed w32 (from_le_bytes w32 b)))
element_data type.int64 b = number (of_integer (cast_signed w64 (from_le_bytes w64 b)))
element_data type.uint8 b = number (unsigned (slice_index b 0))
element_data type.uint16 b = number (unsigned (from_le_bytes w16 b))
element_data type.uint32 b = number (unsigned (from_le_bytes w32 b))
element_data type.uint64 b = number (unsigned (from_le_bytes w64 b))
element_data (type.raw size) b = numbers_data b
element_data type.string b = string b
element_data type.bytes b = numbers_data b
element_data (type.optional inner) b = null

-- the JSON value of a fill value of these bytes: null for none, a list of one value for some
abbrev pub fill_written : Kind → List ℕ → Data
fill_written (type.optional inner) f = elim (inner_fill f) [ None ↦ null | Some front ↦ array (item (fill_written inner front) no_items) ]
fill_written k f = element_data k f
