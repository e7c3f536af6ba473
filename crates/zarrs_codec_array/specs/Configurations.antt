-- The codecs that make an array of an array by what configures them, and what each means.
use Rattle.std.specs.Prelude.{ℕ, List, [], ◌∷◌}
use Rattle.zarrs_codec_array.specs.Arrays.{ArrayMeaning, Extent, same_array, and_then, transposed, reshaped, squeezed}

-- a codec with its configuration
pub data ArrayCodecData : Type 0 where
  transpose : List ℕ → ArrayCodecData
  reshape : List Extent → ArrayCodecData
  squeeze : ArrayCodecData

-- what a codec means
abbrev pub meaning_of_array_codec : ArrayCodecData → ArrayMeaning
meaning_of_array_codec (transpose order) = transposed order
meaning_of_array_codec (reshape entries) = reshaped entries
meaning_of_array_codec squeeze = squeezed

-- what codecs mean one after another, the first one first
abbrev pub meaning_of_array_codecs : List ArrayCodecData → ArrayMeaning
meaning_of_array_codecs [] = same_array
meaning_of_array_codecs (codec ∷ more) = and_then (meaning_of_array_codec codec) (meaning_of_array_codecs more)
