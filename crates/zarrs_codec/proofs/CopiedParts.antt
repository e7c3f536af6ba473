-- Subchunks that are put into their chunk as they stand in the shard.
use Rattle.std.proofs.Common.{◌≡◌, ℕ, ◌+◌, ◌<◌, true, List, length, get_or, Option, None, Some, IsSome, ap, subst, arith}
use Rattle.std.specs.Prelude.{is_some}
use Rattle.zarrs_data_type.specs.ArrayData.{ArrayData, fixed}
use Rattle.zarrs_data_type.specs.Cell.{Cell}
use Rattle.zarrs_data_type.specs.Cells.{cells, HasCells}
use Rattle.zarrs_data_type.specs.Kind.{Kind}
use Rattle.zarrs_data_type_bytes.proofs.Cells.{HasCells-IsSome, HasCells-some}
use Rattle.zarrs_subset.specs.Boxes.{position_count}
use Rattle.zarrs_codec_leaf.specs.declared.error.CodecError.{CodecError}
use Rattle.zarrs_codec_leaf.specs.declared.error.CodecError.TheVariants as error
use Rattle.zarrs_codec_shard.specs.SubchunkData.{PutsSubchunk}
use Rattle.zarrs_codec_shard.specs.Subchunks.{is_cut_by, subchunk_count}
use Rattle.zarrs_codec_chain.specs.Chain.{ChainMeaning}
use Rattle.zarrs_codec.specs.Shardings.{HasFirstCells, ReadsCells, RefusesCopies, RefusesCopy}
use Rattle.zarrs_codec.proofs.PartCells.{cells_left, cells_more, cells_refused, puts_part}

module _ (k : Kind) (s sub : List ℕ) (parts : List (Option (List ℕ))) where
  -- the parts before a number are put into the chunk
  pub record IsCopied (n : ℕ) (old new : ArrayData) : Type 0 where
    pub has : HasCells k new (position_count s)
    pub copied : (m : ChainMeaning) (f : Cell) → ReadsCells m k f sub → HasFirstCells m k f s sub parts 0 old → HasFirstCells m k f s sub parts n new

  pub copied_none : (chunk : ArrayData) → HasCells k chunk (position_count s) → IsCopied 0 chunk chunk
  copied_none chunk has = record { has = has; copied = λ m f reads first. first }

  -- one more that is absent
  pub copied_left : (n : ℕ) (old new : ArrayData) → n < length parts → length parts ≡ subchunk_count s sub → get_or parts n None ≡ None → IsCopied n old new → IsCopied (n + 1) old new
  copied_left n old new lt count at is = record {
    has = is.has;
    copied = λ m f reads first. cells_left m k f s sub parts n new lt count at (is.copied m f reads first);
  }

  -- one more that is present
  pub copied_more : (n : ℕ) (b : List ℕ) (old held new : ArrayData) → n < length parts → length parts ≡ subchunk_count s sub → get_or parts n None ≡ Some b
      → HasCells k (fixed b) (position_count sub) → PutsSubchunk k s sub n (fixed b) held new → IsCopied n old held → IsCopied (n + 1) old new
  copied_more n b old held new lt count at has puts is = record {
    has = subst (λ x. HasCells k new x) puts.count (HasCells-some k new puts.made puts.new_is);
    copied = λ m f reads first.
        cells_more m k f s sub parts n b held new lt at (is.copied m f reads first)
        (puts_part m k f s sub n b (fixed b) held new (omega arith) (reads.same b has) (HasCells-IsSome k (fixed b) (position_count sub) has) puts);
  }

  pub some_first : (m : ChainMeaning) (f : Cell) (n : ℕ) (chunk : ArrayData) → HasFirstCells m k f s sub parts n chunk → IsSome (cells k chunk)
  some_first m f n chunk is = ap is_some is.has.held_is

  pub copy_refused : (n : ℕ) (b : List ℕ) (e : CodecError) → is_cut_by s sub ≡ true → length parts ≡ subchunk_count s sub → n < length parts → get_or parts n None ≡ Some b
      → RefusesCopy k sub b e → RefusesCopies k s sub parts e
  copy_refused n b (error.DoesNotFit misfit) cut count lt at why = λ m f reads. cells_refused m k f s sub parts n b (error.DoesNotFit misfit) cut count lt at (reads.none b why)
  copy_refused n b error.SizeOverflow cut count lt at why = absurd why
  copy_refused n b error.OutOfMemory cut count lt at why = λ m f reads. why
