-- Why a codec of plain cells refuses. Out of memory may come at any time.
use Rattle.std.specs.Prelude.{◌≡◌, ℕ, true, false, List, None}
use Rattle.zarrs_codec_leaf.specs.declared.error.CodecError.{CodecError}
use Rattle.zarrs_codec_leaf.specs.declared.error.CodecError.TheVariants as error
use Rattle.zarrs_data_type.specs.Kind.{Kind}
use Rattle.zarrs_data_type.specs.ArrayData.{ArrayData}
use Rattle.zarrs_codec_leaf.specs.Leaf.{LeafMeaning, encoding_of}

-- the type is not taken, or else a size is too large
abbrev pub RefusesEncoding : LeafMeaning → Kind → ArrayData → CodecError → Type 0
RefusesEncoding leaf k d (error.DoesNotFit _) = leaf.takes k ≡ false
RefusesEncoding leaf k d error.SizeOverflow = (leaf.takes k ≡ true) × (encoding_of leaf k d ≡ None)
RefusesEncoding leaf k d error.OutOfMemory = Unit {0}

-- the bytes are those of no cells
abbrev pub RefusesDecoding : LeafMeaning → Kind → ℕ → List ℕ → CodecError → Type 0
RefusesDecoding leaf k n b (error.DoesNotFit _) = leaf.decoded k n b ≡ None
RefusesDecoding leaf k n b error.SizeOverflow = ⊥
RefusesDecoding leaf k n b error.OutOfMemory = Unit {0}
