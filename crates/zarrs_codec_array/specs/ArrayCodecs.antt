-- What the codecs that make an array of an array mean.
use Rattle.std.specs.Prelude.{◌≡◌, ℕ, ◌+◌, ◌<◌, List, [], ◌∷◌, length, map, take, slice_index_or, Vec}
use Rattle.std.specs.declared.alloc.Global.{Global}
use Rattle.zarrs_codec_array.specs.declared.array.ArrayToArrayCodec.{ArrayToArrayCodec}
use Rattle.zarrs_codec_array.specs.declared.array.ArrayToArrayCodec.TheVariants as codec
use Rattle.zarrs_codec_array.specs.Arrays.{ArrayMeaning, IsLawfulArray}
use Rattle.zarrs_codec_array.specs.ArrayLaws.{same_array-lawful, and_then-lawful, transposed-lawful, reshaped-lawful, squeezed-lawful}
use Rattle.zarrs_codec_array.specs.Configurations.{ArrayCodecData, transpose, reshape, squeeze, meaning_of_array_codec, meaning_of_array_codecs}
use Rattle.zarrs_codec_array.specs.Reshape.{entries_of}
use Rattle.zarrs_codec_array.specs.Transpose.{order_of}

-- the configuration of a codec
abbrev pub array_codec_data : ArrayToArrayCodec → ArrayCodecData
array_codec_data (codec.Transpose t) = transpose (order_of t)
array_codec_data (codec.Reshape r) = reshape (entries_of r)
array_codec_data (codec.Squeeze s) = squeeze

-- what a codec means
abbrev pub array_meaning : ArrayToArrayCodec → ArrayMeaning
array_meaning c = meaning_of_array_codec (array_codec_data c)

-- what codecs mean one after another, the first one first
abbrev pub arrays_meaning : List ArrayToArrayCodec → ArrayMeaning
arrays_meaning cs = meaning_of_array_codecs (map array_codec_data cs)

-- these are the shapes of the arrays that the first codecs make of one of this shape, one after another
abbrev pub AreMadeShapes : List ArrayToArrayCodec → List ℕ → List (Vec ℕ Global) → Type 0
AreMadeShapes cs s made = (k : ℕ) (d : Vec ℕ Global) → k < length made → (slice_index_or made k d).items ≡ (arrays_meaning (take (k + 1) cs)).shape s

pub array-lawful : (c : ArrayToArrayCodec) → IsLawfulArray (array_meaning c)
array-lawful (codec.Transpose t) = transposed-lawful t.order.items t.in_order
array-lawful (codec.Reshape r) = reshaped-lawful (entries_of r)
array-lawful (codec.Squeeze s) = squeezed-lawful

pub arrays-lawful : (cs : List ArrayToArrayCodec) → IsLawfulArray (arrays_meaning cs)
arrays-lawful [] = same_array-lawful
arrays-lawful (c ∷ cs) = and_then-lawful (array_meaning c) (arrays_meaning cs) (array-lawful c) (arrays-lawful cs)
