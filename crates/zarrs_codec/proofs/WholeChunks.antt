-- A codec that looks at cells alone, as a chain.
use Rattle.std.specs.Prelude.{List, ℕ}
use Rattle.zarrs_subset.specs.Boxes.{position_count}
use Rattle.zarrs_data_type.specs.Cell.{Cell}
use Rattle.zarrs_data_type.specs.Kind.{Kind}
use Rattle.zarrs_codec_leaf.specs.Leaf.{LeafMeaning}
use Rattle.zarrs_codec_leaf.specs.Refusals.{RefusesDecoding}
use Rattle.zarrs_codec_leaf.specs.declared.error.CodecError.{CodecError}
use Rattle.zarrs_codec_leaf.specs.declared.error.CodecError.TheVariants as error
use Rattle.zarrs_codec_chain.specs.Refusals.{RefusesChunkDecoding}
use Rattle.zarrs_codec.specs.Configurations.{whole_chunk}

-- its refusal is one of the chain
pub whole_chunk-refusal : (leaf : LeafMeaning) (k : Kind) (f : Cell) (s b : List ℕ) (e : CodecError)
    → RefusesDecoding leaf k (position_count s) b e → RefusesChunkDecoding (whole_chunk leaf) k f s b e
whole_chunk-refusal leaf k f s b (error.DoesNotFit _) why = why
whole_chunk-refusal leaf k f s b error.SizeOverflow why = absurd why
whole_chunk-refusal leaf k f s b error.OutOfMemory why = why
