-- The bytes of the subchunks of a chunk, one after another.
use Rattle.std.proofs.Common.{◌≡◌, ℕ, ◌+◌, ◌<◌, ◌^◌, Bool, true, List, [], ◌∷◌, ◌++◌, length, map, get_or, Option, Some, sym, ap, subst, ◌∙◌}
use Rattle.std.specs.Prelude.{nat_lt, unwrap_or}
use Rattle.std.specs.List.{range_with_len}
use Rattle.std.proofs.lemmas.Bool.{and_right, lt-ltb}
use Rattle.std.proofs.lemmas.List.FromFn.{length-map-range_with_len}
use Rattle.zarrs_data_type.specs.ArrayData.{ArrayData}
use Rattle.zarrs_data_type.specs.Cell.{Cell, none}
use Rattle.zarrs_data_type.specs.Cells.{HasCells}
use Rattle.zarrs_data_type.specs.Kind.{Kind}
use Rattle.zarrs_data_type_bytes.proofs.Cells.{HasCells-some}
use Rattle.zarrs_subset.specs.Boxes.{position_count, place, unravel, offset_by}
use Rattle.zarrs_subset.proofs.RearrangedCells.{length-made_of}
use Rattle.zarrs_codec_leaf.specs.declared.error.CodecError.{CodecError}
use Rattle.zarrs_codec_leaf.specs.declared.error.CodecError.TheVariants as error
use Rattle.zarrs_metadata_parts.specs.Extension.{◌>>=◌}
use Rattle.zarrs_codec_shard.specs.ShardIndex.{PushesPart}
use Rattle.zarrs_codec_shard.specs.Sharded.{SubchunkMeaning, part_of, sharded_fits, sharded_encoded}
use Rattle.zarrs_codec_shard.specs.Shards.{shard_bytes, written_shard}
use Rattle.zarrs_codec_shard.specs.Steps.{given_if}
use Rattle.zarrs_codec_shard.specs.SubchunkData.{ExtractsSubchunk}
use Rattle.zarrs_codec_shard.specs.Subchunks.{is_cut_by, quotients, corner, subchunk_count, subchunk_at}
use Rattle.zarrs_codec_shard.specs.declared.shard_index.ShardWriter.{ShardWriter}
use Rattle.zarrs_codec_shard.proofs.Encoding.{next_part, no_part}
use Rattle.zarrs_codec_shard.proofs.Missing.{given_if-true, length-all_present}
use Rattle.zarrs_codec.specs.Shardings.{cells_of, RefusesPart, RefusesParts, HasFirstParts}

-- ---- encoding

-- the data of a subchunk
pub extracted : (k : Kind) (s sub : List ℕ) (number : ℕ) (old new : ArrayData) → ExtractsSubchunk k s sub number old new
    → (cells_of k new ≡ subchunk_at s sub (cells_of k old) number) × HasCells k new (position_count sub)
extracted k s sub number old new x =
    let F : List ℕ → Cell = λ q. get_or x.held (place s (offset_by (corner sub (unravel (quotients s sub) number)) q)) none in (
      ap (λ o. unwrap_or o []) x.new_is ∙ ap (λ o. subchunk_at s sub (unwrap_or o []) number) (sym x.old_is),
      subst (λ n. HasCells k new n) (length-made_of F sub) (HasCells-some k new (subchunk_at s sub x.held number) x.new_is),
    )

module _ (m : SubchunkMeaning) (at_start empty : Bool) (f : Cell) (s sub : List ℕ) (cs : List Cell) where
  pub next_written : (count n : ℕ) (old new : ShardWriter) (part : Option (List ℕ)) → HasFirstParts m at_start empty f s sub cs count n old
      → part_of m empty f (subchunk_at s sub cs n) ≡ Some part → PushesPart old new part → HasFirstParts m at_start empty f s sub cs count (n + 1) new
  next_written count n old new part is here pushes = record {
    parts = is.parts ++ part ∷ [];
    parts_are = next_part m empty f s sub cs n is.parts part is.parts_are here;
    writing = pushes at_start count is.parts is.writing;
  }

  pub first_count : (count n : ℕ) (writer : ShardWriter) → (is : HasFirstParts m at_start empty f s sub cs count n writer) → length is.parts ≡ n
  first_count count n writer is =
      let T = λ (j : ℕ). part_of m empty f (subchunk_at s sub cs j) in
      length-all_present (map T (range_with_len 0 n)) is.parts is.parts_are ∙ length-map-range_with_len T 0 n

  pub all_written : (writer : ShardWriter) (encoded : List ℕ) → sharded_fits m s sub ≡ true → (is : HasFirstParts m at_start empty f s sub cs (subchunk_count s sub) (subchunk_count s sub) writer)
      → encoded ≡ shard_bytes at_start is.parts → length encoded < 2 ^ 64 → sharded_encoded m at_start empty f s sub cs ≡ Some encoded
  all_written writer encoded fit is same small =
      given_if-true (sharded_fits m s sub) _ fit
      ∙ ap (λ o. o >>= written_shard at_start) is.parts_are
      ∙ ap (λ b. given_if (nat_lt (length b) (2 ^ 64)) (Some b)) (sym same)
      ∙ given_if-true (nat_lt (length encoded) (2 ^ 64)) (Some encoded) (lt-ltb (length encoded) (2 ^ 64) small)

  pub part_refused : (n : ℕ) (e : CodecError) → sharded_fits m s sub ≡ true → n < subchunk_count s sub → RefusesPart m empty f (subchunk_at s sub cs n) e → RefusesParts m at_start empty f s sub cs e
  part_refused n (error.DoesNotFit _) fit lt refused = and_right (is_cut_by s sub) m.fits refused
  part_refused n error.SizeOverflow fit lt refused =
      given_if-true (sharded_fits m s sub) _ fit ∙ ap (λ o. o >>= written_shard at_start) (no_part m empty f s sub cs (subchunk_count s sub) n lt refused.1)
  part_refused n error.OutOfMemory fit lt refused = refused
