-- Why a call of a chain refuses. Out of memory may come at any time.
use Rattle.std.specs.Prelude.{◌≡◌, ◌⊎◌, ℕ, ◌*◌, ◌≤◌, ◌^◌, Bool, true, false, List, length, Option, None, Some}
use Rattle.zarrs_codec_leaf.specs.declared.error.CodecError.{CodecError}
use Rattle.zarrs_codec_leaf.specs.declared.error.CodecError.TheVariants as error
use Rattle.zarrs_data_type.specs.Kind.{Kind}
use Rattle.zarrs_data_type.specs.Cell.{Cell, held_size}
use Rattle.zarrs_data_type.specs.ArrayData.{ArrayData}
use Rattle.zarrs_subset.specs.Boxes.{position_count}
use Rattle.zarrs_subset.specs.Regions.{Box}
use Rattle.zarrs_codec_chain.specs.Chain.{ChainMeaning, chunk_cells, chunk_encoding, partial_encoding}

-- the type and the shape do not fit, or else a size is too large
abbrev pub RefusesChunkEncoding : ChainMeaning → Bool → Kind → Cell → List ℕ → ArrayData → CodecError → Type 0
RefusesChunkEncoding chain empty k f s d (error.DoesNotFit _) = chain.fits k s ≡ false
RefusesChunkEncoding chain empty k f s d error.SizeOverflow = (chain.fits k s ≡ true) × (chunk_encoding chain empty k f s d ≡ None)
RefusesChunkEncoding chain empty k f s d error.OutOfMemory = Unit {0}

-- the bytes are those of no cells, or they leave out cells, and a chunk of fill is too large
abbrev pub RefusesChunkDecoding : ChainMeaning → Kind → Cell → List ℕ → List ℕ → CodecError → Type 0
RefusesChunkDecoding chain k f s b (error.DoesNotFit _) = chain.decoded k f s b ≡ None
RefusesChunkDecoding chain k f s b error.SizeOverflow = (chain.leaves_out s b ≡ true) × (2 ^ 64 ≤ position_count s * held_size k f)
RefusesChunkDecoding chain k f s b error.OutOfMemory = Unit {0}

-- the bytes do not decode, or what they compact to is too long: bytes that several cells share are written for each
abbrev pub RefusesCompaction : ChainMeaning → List ℕ → List ℕ → CodecError → Type 0
RefusesCompaction chain s b (error.DoesNotFit _) = chain.compacted s b ≡ None
RefusesCompaction chain s b error.SizeOverflow = (less : List ℕ) × (chain.compacted s b ≡ Some (Some less)) × (2 ^ 64 ≤ length less)
RefusesCompaction chain s b error.OutOfMemory = Unit {0}

-- something that a read of this part decodes whole is too large
abbrev pub IsTooLargeToDecode : ChainMeaning → Kind → Cell → (shape : List ℕ) → (part : Box) → (encoded : List ℕ) → Type 0
IsTooLargeToDecode chain k f s part b = chain.reads_too_large k f s part b ≡ true

-- the type and the shape do not fit or what is stored does not decode; or it decodes where the part reads it, and a size is
-- too large: of what is written, or of a subchunk that the part meets
abbrev pub RefusesPartialEncoding : ChainMeaning → Bool → Kind → Cell → List ℕ → Option (List ℕ) → Box → ArrayData → CodecError → Type 0
RefusesPartialEncoding chain empty k f s stored part d (error.DoesNotFit _) = (chain.fits k s ≡ false) ⊎ (chunk_cells chain k f s stored ≡ None)
RefusesPartialEncoding chain empty k f s stored part d error.SizeOverflow =
    (chain.fits k s ≡ true) × (chain.partly_decodes k f s stored part ≡ true)
    × ((partial_encoding chain empty k f s stored part d ≡ None) ⊎ (chain.partly_too_large k f s stored part ≡ true))
RefusesPartialEncoding chain empty k f s stored part d error.OutOfMemory = Unit {0}
