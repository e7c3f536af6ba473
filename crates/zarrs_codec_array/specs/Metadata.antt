-- The metadata of codecs that make an array of an array: what is read from it, and what is written for one.
use Rattle.std.specs.Prelude.{ℕ, ℤ, negsuc, List, [], ◌||◌, codes, if◌then◌else◌, Option, Some, None}
use Rattle.std.specs.Prelude.{option_map, option_and_then}
use Rattle.std.specs.Option.{option_or}
use Rattle.std.specs.Ordering.{int_eq}
use Rattle.std.specs.Str.{bytes_eq}
use Rattle.serde_json.specs.Data.{Data, number, negative, Members}
use Rattle.serde_json.specs.Find.{as_number, as_i64}
use Rattle.zarrs_metadata_parts.specs.Extension.{ExtensionData, settings, named, only_member, extension_with_member}
use Rattle.zarrs_metadata_parts.specs.Lists.{list_of, list_data, number_data, numbers_of, numbers_data, size_said}
use Rattle.zarrs_metadata_parts.specs.Members.{has_only}
use Rattle.zarrs_codec_array.specs.Arrays.{Extent, size, product_of, rest}
use Rattle.zarrs_codec_array.specs.Configurations.{ArrayCodecData, transpose, reshape, squeeze}
use Rattle.zarrs_codec_array.specs.Extents.{is_reshape}
use Rattle.zarrs_codec_array.specs.Orders.{is_order}

-- ---- what metadata says

-- -1 is what is left
abbrev pub rest_of : ℤ → Option Extent
rest_of z = if int_eq z (negsuc 0) then Some rest else None

-- a size, -1, or a list of dimensions
abbrev pub extent_said : Data → Option Extent
extent_said d =
    option_or (option_map size (size_said d))
    (option_or (option_and_then rest_of (option_and_then as_i64 (as_number d))) (option_map product_of (numbers_of d)))

abbrev pub transpose_of : List ℕ → Option ArrayCodecData
transpose_of order = if is_order order then Some (transpose order) else None

abbrev pub reshape_of : List Extent → Option ArrayCodecData
reshape_of entries = if is_reshape entries then Some (reshape entries) else None

-- `transpose`: the member `order` is an order
abbrev pub transpose_said : Members → Option ArrayCodecData
transpose_said ms = option_and_then transpose_of (option_and_then numbers_of (only_member (codes "order") ms))

-- `reshape`: the member `shape` names no dimension twice, and at most one entry is what is left
abbrev pub reshape_said : Members → Option ArrayCodecData
reshape_said ms = option_and_then reshape_of (option_and_then (list_of extent_said) (only_member (codes "shape") ms))

-- `squeeze` has no configuration
abbrev pub squeeze_said : Members → Option ArrayCodecData
squeeze_said ms = if has_only [] ms then Some squeeze else None

-- the codec of this name, with this configuration
abbrev pub array_codec_named : List ℕ → Members → Option ArrayCodecData
array_codec_named name ms =
    if bytes_eq name (codes "transpose") then transpose_said ms
    else if bytes_eq name (codes "reshape") || bytes_eq name (codes "zarrs.reshape") then reshape_said ms
    else if bytes_eq name (codes "squeeze") || bytes_eq name (codes "zarrs.squeeze") then squeeze_said ms
    else None

-- the codec that metadata says
abbrev pub array_codec_said : ExtensionData → Option ArrayCodecData
array_codec_said extension = array_codec_named extension.name (settings extension)

-- ---- what is written for a codec

abbrev pub extent_data : Extent → Data
extent_data (size n) = number_data n
extent_data (product_of dimensions) = numbers_data dimensions
extent_data rest = number (negative (negsuc 0))

-- the metadata of a codec
abbrev pub extension_of_array_codec : ArrayCodecData → ExtensionData
extension_of_array_codec (transpose order) = extension_with_member (codes "transpose") (codes "order") (numbers_data order)
extension_of_array_codec (reshape entries) = extension_with_member (codes "reshape") (codes "shape") (list_data extent_data entries)
extension_of_array_codec squeeze = named (codes "squeeze")
