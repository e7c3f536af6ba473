-- Chunks that are not cut into subchunks that fit.
use Rattle.std.proofs.Common.{ℕ, Bool, false, List, Option, inl}
use Rattle.zarrs_data_type.specs.ArrayData.{ArrayData}
use Rattle.zarrs_data_type.specs.Cell.{Cell}
use Rattle.zarrs_data_type.specs.Kind.{Kind}
use Rattle.zarrs_subset.specs.Regions.{Box}
use Rattle.zarrs_codec_leaf.specs.declared.error.CodecError.{CodecError}
use Rattle.zarrs_codec_leaf.specs.declared.error.CodecError.TheVariants as error
use Rattle.zarrs_codec_shard.specs.Sharded.{sharded_fits}
use Rattle.zarrs_codec_shard.proofs.Missing.{given_if-false}
use Rattle.zarrs_codec_chain.specs.Chain.{ChainMeaning}
use Rattle.zarrs_codec_chain.specs.Refusals.{RefusesChunkDecoding, RefusesChunkEncoding, RefusesPartialEncoding}
use Rattle.zarrs_codec.specs.Shardings.{RefusesCut, sharded, subchunk_meaning}

module _ (m : ChainMeaning) (at_start : Bool) (k : Kind) (f : Cell) (s sub : List ℕ) where
  pub cut_encoding : (empty : Bool) (d : ArrayData) (e : CodecError) → RefusesCut (sharded at_start sub m) k s e → RefusesChunkEncoding (sharded at_start sub m) empty k f s d e
  cut_encoding empty d (error.DoesNotFit _) why = why
  cut_encoding empty d error.SizeOverflow why = absurd why
  cut_encoding empty d error.OutOfMemory why = why

  pub cut_decoding : (b : List ℕ) (e : CodecError) → RefusesCut (sharded at_start sub m) k s e → RefusesChunkDecoding (sharded at_start sub m) k f s b e
  cut_decoding b (error.DoesNotFit _) why = given_if-false (sharded_fits (subchunk_meaning m false k f sub) s sub) _ why
  cut_decoding b error.SizeOverflow why = absurd why
  cut_decoding b error.OutOfMemory why = why

  pub cut_partial : (empty : Bool) (stored : Option (List ℕ)) (part : Box) (d : ArrayData) (e : CodecError) → RefusesCut (sharded at_start sub m) k s e
      → RefusesPartialEncoding (sharded at_start sub m) empty k f s stored part d e
  cut_partial empty stored part d (error.DoesNotFit _) why = inl why
  cut_partial empty stored part d error.SizeOverflow why = absurd why
  cut_partial empty stored part d error.OutOfMemory why = why
