-- Why a part of a chunk is not read. Out of memory may come at any time.
use Rattle.std.specs.Prelude.{◌≡◌, Bool, List, Option, None}
use Rattle.zarrs_codec_leaf.specs.declared.error.CodecError.{CodecError}
use Rattle.zarrs_codec_leaf.specs.declared.error.CodecError.TheVariants as codec
use Rattle.zarrs_codec_leaf.specs.Sources.{RefusesSource}
use Rattle.zarrs_data_type.specs.Cell.{Cell}
use Rattle.zarrs_codec_chain.specs.declared.error.PartError.{PartError}
use Rattle.zarrs_codec_chain.specs.declared.error.PartError.TheVariants.{Codec, Source}

-- the chunk does not decode, what would be decoded whole is too large, or the source refuses
abbrev pub RefusesPartDecoding : (decoded : Option (List Cell)) (TooLarge : Type 0) (refuses : Bool) → PartError → Type 0
RefusesPartDecoding decoded TooLarge refuses (Codec (codec.DoesNotFit _)) = decoded ≡ None
RefusesPartDecoding decoded TooLarge refuses (Codec codec.SizeOverflow) = TooLarge
RefusesPartDecoding decoded TooLarge refuses (Codec codec.OutOfMemory) = Unit {0}
RefusesPartDecoding decoded TooLarge refuses (Source e) = RefusesSource refuses e

-- the chunk does not decode
abbrev pub RefusesIntoDecoding : (decoded : Option (List Cell)) → CodecError → Type 0
RefusesIntoDecoding decoded (codec.DoesNotFit _) = decoded ≡ None
RefusesIntoDecoding decoded codec.SizeOverflow = ⊥
RefusesIntoDecoding decoded codec.OutOfMemory = Unit {0}

-- the error of a chunk in memory, of which a part was read that is all of it
abbrev pub IsWholeError : PartError → CodecError → Type 0
IsWholeError (Codec e) made = made ≡ e
IsWholeError (Source e) made = made ≡ codec.OutOfMemory
