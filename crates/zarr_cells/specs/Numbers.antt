-- What words say as cells: the bits of a number, and the bytes of these.
use Rattle.std.specs.Prelude.{◌≡◌, ◌≢◌, ◌<◌, ⊤, ◌==◌, ◌&&◌, ℕ, ◌-◌, ◌%◌, ◌^◌, List, [], ◌∷◌, ◌++◌, Option, Some, None, Result, Ok, Err, Bool, false}
use Rattle.std.specs.Prelude.{length, take, drop, replicate, slice_index, slice_range, nat_lt, nat_le, bytes_eq, codes, to_bits}
use Rattle.std.specs.Prelude.{if◌then◌else◌, option_and_then}
use Rattle.std.specs.Io.KnownBytes.{Appends}
use Rattle.std.specs.Str.{all_ascii_digits}
use Rattle.std.specs.Str.Parse.{digits_value}
use Rattle.std.specs.Int.{w32, w64, to_le_bytes, from_be_bytes}
use Rattle.std.specs.Float.{binary32, binary64, float_is_finite}
use Rattle.std.specs.Float.Ieee.{Format}
use Rattle.fast_float.specs.Parse.{parse_float}
use Rattle.hex.specs.Hex.{decode_sized}
use Rattle.hex.specs.declared.error.FromHexError.{FromHexError}
use Rattle.zarr_cells.specs.declared.form.Form.{Form}
use Rattle.zarr_cells.specs.declared.form.Form.TheVariants.{Bool as BoolForm, Unsigned, Signed, Float}
use Rattle.zarr_cells.specs.declared.form.Width.{Width}
use Rattle.zarr_cells.specs.declared.form.Width.TheVariants.{Four, Eight}

-- ---- numbers

-- the number below 2^64 that the digits say
abbrev pub number_in : List ℕ → Option ℕ
number_in word = if nat_lt 0 (length word) && (all_ascii_digits word && nat_lt (digits_value 10 word) (2 ^ 64)) then Some (digits_value 10 word) else None

-- the bits by two's complement of a number that digits say behind a minus
abbrev pub negative_in : List ℕ → Option ℕ
negative_in digits = option_and_then (λ size. if nat_le size (2 ^ 63) then Some ((2 ^ 64 - size) % 2 ^ 64) else None) (number_in digits)

-- the bits by two's complement of the number from -2^63 to 2^63 - 1 that the word says
abbrev pub signed_in : List ℕ → Option ℕ
signed_in word =
    if slice_index word 0 == 45 then negative_in (drop 1 word)
    else option_and_then (λ number. if nat_lt number (2 ^ 63) then Some number else None) (number_in word)

-- the bits of `false` and `true`
abbrev pub bool_in : List ℕ → Option ℕ
bool_in word = if bytes_eq word (codes "false") then Some 0 else if bytes_eq word (codes "true") then Some 1 else None

-- ---- floats

abbrev pub format_of : Width → Format
format_of Four = binary32
format_of Eight = binary64

-- the bits of the float that the number is nearest to, unless that is no finite one
abbrev pub finite_in : Width → List ℕ → Option ℕ
finite_in width word =
    option_and_then (λ number. if float_is_finite number then Some (to_bits (format_of width) number) else None) (parse_float (format_of width) word)

abbrev pub nan_bits : Width → ℕ
nan_bits Four = 0x7fc00000
nan_bits Eight = 0x7ff8000000000000

abbrev pub infinity_bits : Width → ℕ
infinity_bits Four = 0x7f800000
infinity_bits Eight = 0x7ff0000000000000

abbrev pub negative_infinity_bits : Width → ℕ
negative_infinity_bits Four = 0xff800000
negative_infinity_bits Eight = 0xfff0000000000000

abbrev pub bits_of_bytes : Width → Result (List ℕ) FromHexError → Option ℕ
bits_of_bytes width (Err e) = None
bits_of_bytes Four (Ok bytes) = Some (from_be_bytes w32 bytes)
bits_of_bytes Eight (Ok bytes) = Some (from_be_bytes w64 bytes)

abbrev pub byte_count : Width → ℕ
byte_count Four = 4
byte_count Eight = 8

-- the bits that hexadecimal digits say, of which there have to be as many as the bits need
abbrev pub hex_in : Width → List ℕ → Option ℕ
hex_in width name = if bytes_eq (take 2 name) (codes "0x") then bits_of_bytes width (decode_sized (drop 2 name) (byte_count width)) else None

-- the bits of a float that a name says, between quotes
abbrev pub name_in : Width → List ℕ → Option ℕ
name_in width name =
    if bytes_eq name (codes "NaN") then Some (nan_bits width)
    else if bytes_eq name (codes "Infinity") then Some (infinity_bits width)
    else if bytes_eq name (codes "-Infinity") then Some (negative_infinity_bits width)
    else hex_in width name

-- what stands between the quotes that the word begins and ends with
abbrev pub unquoted : List ℕ → Option (List ℕ)
unquoted word =
    if nat_lt 1 (length word) && (slice_index word 0 == 34 && (slice_index word (length word - 1) == 34))
    then Some (slice_range word 1 (length word - 1)) else None

abbrev pub float_in_name : Width → List ℕ → Option (List ℕ) → Option ℕ
float_in_name width word (Some name) = name_in width name
float_in_name width word None = finite_in width word

-- the bits of the float that the word says
abbrev pub float_in : Width → List ℕ → Option ℕ
float_in width word = float_in_name width word (unquoted word)

-- ---- cells

-- the bits that the word says
abbrev pub bits_in : Form → List ℕ → Option ℕ
bits_in BoolForm word = bool_in word
bits_in Unsigned word = number_in word
bits_in Signed word = signed_in word
bits_in (Float width) word = float_in width word

-- whether the cell is a number below 0
abbrev pub is_below_zero : Form → List ℕ → Bool
is_below_zero Signed cell = nat_lt 127 (slice_index cell (length cell - 1))
is_below_zero BoolForm cell = false
is_below_zero Unsigned cell = false
is_below_zero (Float width) cell = false

-- what stands above the bytes of a cell in eight bytes that say the same
abbrev pub sign_byte : Bool → ℕ
sign_byte below_zero = if below_zero then 255 else 0

-- the eight bytes that say the same as the cell
abbrev pub widened : Form → List ℕ → List ℕ
widened form cell = cell ++ replicate (8 - length cell) (sign_byte (is_below_zero form cell))

-- the cell of so many bytes that has these bits, if there is one
abbrev pub cell_of : Form → ℕ → ℕ → Option (List ℕ)
cell_of form size bits =
    if nat_le size 8 && bytes_eq (widened form (take size (to_le_bytes w64 bits))) (to_le_bytes w64 bits) then Some (take size (to_le_bytes w64 bits)) else None

-- the cell of so many bytes that the word says
abbrev pub cell_in : Form → ℕ → List ℕ → Option (List ℕ)
cell_in form size word = option_and_then (cell_of form size) (bits_in form word)

-- ---- what is written

-- no blank, no comma
abbrev pub AreSolid : List ℕ → Type 0
AreSolid [] = ⊤
AreSolid (byte ∷ bytes) = (32 < byte) × (byte ≢ 44) × AreSolid bytes

-- a word that says these bits, with no blank or comma in it, was written behind what the writer held
pub record WritesBits (form : Form) (bits : ℕ) (old new : Option (List ℕ)) : Type 0 where
  pub word : List ℕ
  pub some : 0 < length word
  pub solid : AreSolid word
  pub says : bits_in form word ≡ Some bits
  pub written : Appends old new word
