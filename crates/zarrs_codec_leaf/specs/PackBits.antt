-- The codec `packbits`: eight bools a byte, the first in the lowest bit.
use Rattle.std.specs.Prelude.{ℕ, ◌+◌, ◌*◌, ◌/◌, Bool, true, false, None, Some, List, [], ◌∷◌, length, map, take}
use Rattle.std.specs.Prelude.{drop, slice_index, ◌==◌, ◌&&◌, if◌then◌else◌}
use Rattle.std.specs.List.{range_with_len, flat_map, list_all}
use Rattle.std.specs.Int.{bit_at}
use Rattle.zarrs_data_type.specs.Kind.{Kind}
use Rattle.zarrs_data_type.specs.Kind as type
use Rattle.zarrs_data_type.specs.Cell.{Cell, bytes}
use Rattle.zarrs_subset.specs.Pieces.{pieces}
use Rattle.zarrs_codec_leaf.specs.Bytes.{cell_bytes}
use Rattle.zarrs_codec_leaf.specs.Leaf.{LeafMeaning}

abbrev pub is_bool : Kind → Bool
is_bool type.bool = true
is_bool _ = false

-- the number whose bits are these flags, the first one the lowest
abbrev pub packed_byte : List ℕ → ℕ
packed_byte [] = 0
packed_byte (flag ∷ flags) = flag + 2 * packed_byte flags

-- the number of bytes that hold n bits
abbrev pub packed_len : ℕ → ℕ
packed_len n = (n + 7) / 8

-- flags, eight to a byte; the last byte has those that are left
abbrev pub packed : List ℕ → List ℕ
packed flags = map packed_byte (pieces 8 (packed_len (length flags)) flags)

-- the bits of a byte, the lowest first
abbrev pub byte_bits : ℕ → List ℕ
byte_bits x = map (λ i. bit_at x i) (range_with_len 0 8)

abbrev pub bits : List ℕ → List ℕ
bits b = flat_map byte_bits b

-- the flag that a bool is, and the bool of a flag
abbrev pub flag_of : Cell → ℕ
flag_of c = slice_index (cell_bytes c) 0

abbrev pub flag_cell : ℕ → Cell
flag_cell flag = bytes (flag ∷ [])

-- whether each of these bits is 0
abbrev pub are_zero : List ℕ → Bool
are_zero padding = list_all (λ bit. bit == 0) padding

-- as many bytes as the flags need decode if the bits behind the flags are 0
abbrev pub packbits_meaning : LeafMeaning
packbits_meaning = record {
  takes = is_bool;
  encoded = λ k cs. if is_bool k then Some (packed (map flag_of cs)) else None;
  decoded = λ k n b. if is_bool k && (length b == packed_len n) && are_zero (drop n (bits b)) then Some (map flag_cell (take n (bits b))) else None;
}
