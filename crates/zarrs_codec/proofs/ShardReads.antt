-- What is read of a shard, and why it is not.
use Rattle.std.proofs.Common.{◌≡◌, ℕ, ◌*◌, ◌<◌, ◌^◌, Bool, true, false, ◌&&◌, List, length, Option, None, Some, refl, sym, ap, ◌∙◌, subst, arith}
use Rattle.std.proofs.Math.Nat.{mul-le-mul_right}
use Rattle.std.specs.Prelude.{IfSome, option_map, slice_index_or}
use Rattle.zarrs_data_type.specs.ArrayData.{ArrayData}
use Rattle.zarrs_data_type.specs.Cell.{Cell}
use Rattle.zarrs_data_type.specs.CellTypes.{filling, kind_of}
use Rattle.zarrs_data_type.specs.Kind.{Kind, cell_size}
use Rattle.zarrs_data_type_kinds.specs.declared.cell_type.CellType.{CellType}
use Rattle.zarrs_codec_leaf.specs.declared.source.ByteSource.{Ghosts as SourceMeaning}
use Rattle.zarrs_codec_shard.specs.Subchunks.{is_cut_by}
use Rattle.zarrs_subset.specs.Boxes.{position_count}
use Rattle.zarrs_subset.specs.Regions.{Box, IsLong, box_at_origin, overlap_of, seen_from}
use Rattle.zarrs_subset.proofs.Inside.{count_inside}
use Rattle.zarrs_codec_chain.specs.Chain.{ChainMeaning}
use Rattle.zarrs_codec_chain.specs.Parts.{DecodesPart, DecodesPartAt}
use Rattle.zarrs_codec_chain.specs.PartRefusals.{RefusesPartDecoding}
use Rattle.zarrs_codec_chain.specs.Refusals.{IsTooLargeToDecode}
use Rattle.zarrs_codec_chain.specs.ShardReads.{IsAt, IsOpen, IsShare, ShardRead, box_at, count_of, parts_of}
use Rattle.zarrs_codec_chain.specs.Stored.{MayReadAll, MayReadOf, bytes_of, refuses_of}
use Rattle.zarrs_codec_chain.specs.declared.error.PartError.{PartError}
use Rattle.zarrs_codec_chain.specs.declared.stored.Stored.{Stored}
use Rattle.zarrs_codec_chain.proofs.ReadSteps.{parts_len}
use Rattle.zarrs_codec_chain.proofs.SubchunkSteps.{all_parts_decode, broken_shard, inner_refused, step_refused}
use Rattle.zarrs_codec.specs.ChainLaws.{chain-lawful, sharded-lawful}
use Rattle.zarrs_codec.specs.Chains.{chain_meaning, inner_chain_of}
use Rattle.zarrs_codec.specs.ShardChunks.{HasParts, HasPieceOf, RefusesShard, RefusesReads, shard_as, shard_decoded}
use Rattle.zarrs_codec.specs.ShardPartsInto.{HasAllPartsAt, RefusesPiece}
use Rattle.zarrs_codec.specs.Shardings.{ReadsLargeSubchunk, subchunk_meaning}
use Rattle.zarrs_codec.specs.declared.sharding.ShardingCodec.{ShardingCodec}
use Rattle.zarrs_codec.proofs.PartReads.{large_piece, shard_too_large}
use Rattle.zarrs_codec.proofs.Pieces.{piece_read}
use Rattle.zarrs_codec.proofs.SubchunksInto.{parts_decode_at}
use Rattle.zarrs_codec.proofs.WholeShards.{all_met, own_long, seen_self, shared_is}

module _ (codec : ShardingCodec) (t : CellType) (r : ShardRead) (is : IsOpen r) where
  abbrev m : ChainMeaning
  m = chain_meaning (inner_chain_of codec)

  abbrev k : Kind
  k = kind_of t

  abbrev f : Cell
  f = filling t

  counted : (b : List ℕ) (cs : List Cell) → m.decoded k f r.sub b ≡ Some cs → length cs ≡ position_count r.sub
  counted b cs decodes = (chain-lawful (inner_chain_of codec)).decoded_len k f r.sub b cs decodes

  -- what has all parts has what the shard decodes to
  pub parts_decode : (held : ArrayData) → HasParts codec t r held → DecodesPart k r.shape r.part (shard_decoded codec t r) held
  parts_decode held has =
      all_parts_decode k (m.decoded k f r.sub) f r.shape r.sub (subchunk_meaning m false k f r.sub) r.at_start r.encoded (parts_of r) (λ b. refl) is.parts r.part held is.cut is.long is.lies counted has

  pub parts_at_decode : (box own : Box) (held : ArrayData) → HasAllPartsAt k (m.decoded k f r.sub) f r.shape r.sub r.part (parts_of r) box own held
      → DecodesPartAt k r.shape r.part (shard_decoded codec t r) box own held
  parts_at_decode box own held has =
      parts_decode_at k (m.decoded k f r.sub) f r.shape r.sub r.part (parts_of r) box own (subchunk_meaning m false k f r.sub) r.at_start r.encoded held (λ b. refl) is.parts is.cut is.long is.lies counted has

  -- why its subchunks are not read is why the part is not
  pub subchunks_refused : (e : PartError) → RefusesReads codec t r e → RefusesShard codec t r e
  subchunks_refused e why =
      step_refused (shard_decoded codec t r) (IsTooLargeToDecode (shard_as codec r) k f r.shape r.part r.encoded) (m.decoded k f r.sub) (ReadsLargeSubchunk m k f r.shape r.sub r.part) (parts_of r) r.refuses e
      (broken_shard k (m.decoded k f r.sub) f r.shape r.sub (subchunk_meaning m false k f r.sub) r.at_start r.encoded (parts_of r) (λ b. refl) is.parts)
      (shard_too_large r.at_start r.sub m k f r.shape r.part r.encoded (parts_of r) is.cut is.parts) why

  -- the inner chain does not take the subchunks
  pub sharded_unfit : m.fits k r.sub ≡ false → shard_decoded codec t r ≡ None
  sharded_unfit unfit = (sharded-lawful r.at_start r.sub m (chain-lawful (inner_chain_of codec))).unfit_decoded k f r.shape r.encoded (ap (λ b. is_cut_by r.shape r.sub && b) unfit ∙ and_false (is_cut_by r.shape r.sub))
    where
      and_false : (b : Bool) → (b && false) ≡ false
      and_false true = refl
      and_false false = refl

  -- ---- one subchunk

  -- what is too large of a subchunk that the whole shard has
  pub whole_large : (n : ℕ) (piece : Box) → r.part ≡ box_at_origin r.shape → n < count_of r → piece ≡ box_at_origin r.sub → (b : List ℕ) → IsTooLargeToDecode m k f r.sub piece b
      → ReadsLargeSubchunk m k f r.shape r.sub r.part n b
  whole_large n piece part_is lt piece_is b large =
      let own = box_at r n in
      large_piece m k f r.shape r.sub r.part n own (overlap_of r.part own) piece own.start b (all_met r is n part_is lt) refl refl refl
      (piece_is ∙ sym (seen_self own (own_long r is n part_is lt)) ∙ ap (λ (x : Box). seen_from x own.start) (sym (shared_is r is n part_is lt))) large

  module _ (i : List ℕ) (n : ℕ) (shared own : Box) (share : IsShare r i n shared own) where
    pub large_share : (b : List ℕ) → IsTooLargeToDecode m k f r.sub own b → ReadsLargeSubchunk m k f r.shape r.sub r.part n b
    large_share b large =
        large_piece m k f r.shape r.sub r.part n (box_at r n) shared own (box_at r n).start b share.meets refl share.shared_is refl
        (share.own_is ∙ ap (seen_from shared) (sym share.corner_is)) large

    -- the part has no fewer cells
    pub small_share : IsLong shared → position_count r.part.shape * cell_size k < 2 ^ 64 → position_count own.shape * cell_size k < 2 ^ 64
    small_share long small =
        let fewer = count_inside shared r.part long is.long share.shared_lies in
        let same : position_count own.shape ≡ position_count shared.shape = ap (λ (b : Box). position_count b.shape) share.own_is in
        omega (arith, ap (λ x. x * cell_size k) same, mul-le-mul_right (cell_size k) fewer)

  below : (n : ℕ) → n < count_of r → n < length (parts_of r)
  below n lt = omega (arith, parts_len r is)

  module _ {B : Type 0} {b : SourceMeaning B} (n : ℕ) (lt : n < count_of r) where
    -- why the bytes of a subchunk are not read
    pub own_refused : (own : Stored B b) (piece : Box) (e : PartError) → slice_index_or (parts_of r) n None ≡ Some (bytes_of own) → refuses_of own ≡ r.refuses
        → ((x : List ℕ) → IsTooLargeToDecode m k f r.sub piece x → ReadsLargeSubchunk m k f r.shape r.sub r.part n x)
        → RefusesPartDecoding (m.decoded k f r.sub (bytes_of own)) (IsTooLargeToDecode m k f r.sub piece (bytes_of own)) (refuses_of own) e → RefusesReads codec t r e
    own_refused own piece e there refuses large why =
        inner_refused (m.decoded k f r.sub) (ReadsLargeSubchunk m k f r.shape r.sub r.part) (IsTooLargeToDecode m k f r.sub piece (bytes_of own)) (parts_of r) n (bytes_of own) r.refuses e (below n lt) there (large (bytes_of own))
        (subst (λ (x : Bool). RefusesPartDecoding (m.decoded k f r.sub (bytes_of own)) (IsTooLargeToDecode m k f r.sub piece (bytes_of own)) x e) refuses why)

    pub piece_refused : (o : Option (Stored B b)) (piece : Box) (e : PartError) → slice_index_or (parts_of r) n None ≡ option_map bytes_of o → IfSome o (λ own. refuses_of own ≡ r.refuses)
        → ((x : List ℕ) → IsTooLargeToDecode m k f r.sub piece x → ReadsLargeSubchunk m k f r.shape r.sub r.part n x)
        → RefusesPiece (m.decoded k f r.sub) (IsTooLargeToDecode m k f r.sub piece) o e → RefusesReads codec t r e
    piece_refused None piece e there refuses large why = subst (RefusesReads codec t r) (sym why) tt
    piece_refused (Some own) piece e there refuses large why = own_refused own piece e there refuses large why

  -- the cells that its chain decodes
  pub piece_of_share : (i : List ℕ) (n : ℕ) (encoded : List ℕ) (shared own : Box) (made : ArrayData) → IsAt r i n → IsShare r i n shared own → IsLong shared → slice_index_or (parts_of r) n None ≡ Some encoded
      → DecodesPart k r.sub own (m.decoded k f r.sub encoded) made → HasPieceOf codec t r i shared made
  piece_of_share i n encoded shared own made at share long there read =
      piece_read k (m.decoded k f r.sub) f r.shape r.sub r.part (parts_of r) i n encoded shared made is.cut is.long is.lies long at.in_grid at.at_n there share.common share.corner_len share.above (sym share.shared_lies.same_length)
      (subst (λ (x : Box). DecodesPart k r.sub x (m.decoded k f r.sub encoded) made) share.own_is read)

-- what may be read of bytes of which each may
pub read_places : {B : Type 0} {b : SourceMeaning B} (stored : Stored B b) (places : ℕ → Bool) → ((place : ℕ) → places place ≡ true → place < length (bytes_of stored)) → MayReadAll stored → MayReadOf stored places
read_places stored places inside all = λ place is. all place (inside place is)
