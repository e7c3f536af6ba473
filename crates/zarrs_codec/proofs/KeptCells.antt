-- Subchunks whose bytes are their cells as they stand in memory.
use Rattle.std.proofs.Common.{Result, Ok, Err, IfOk, ◌≡◌, ℕ, Bool, true, false, List, [], ◌∷◌, Option, None, Some, IsSome, length, refl, sym, ap, subst, ◌∙◌}
use Rattle.std.specs.Prelude.{IsSomeAnd, not, option_and_then, option_map, unwrap_or, ◌&&◌, if◌then◌else◌}
use Rattle.std.proofs.lemmas.Bool.{and_parts, false≢true}
use Rattle.zarrs_data_type.specs.declared.data_type.DataType.{DataType}
use Rattle.zarrs_data_type_bytes.specs.declared.array_bytes.ArrayBytes.{ArrayBytes}
use Rattle.zarrs_data_type.specs.ArrayData.{data_of, fixed}
use Rattle.zarrs_data_type.specs.Cell.{Cell}
use Rattle.zarrs_data_type.specs.Cells.{cells, HasCells}
use Rattle.zarrs_data_type.specs.Kind.{Kind, kind}
use Rattle.zarrs_subset.specs.Boxes.{position_count}
use Rattle.zarrs_codec_array.specs.declared.array.ArrayToArrayCodec.{ArrayToArrayCodec}
use Rattle.zarrs_codec_leaf.specs.Bytes.{bytes_meaning_of, endian_of, reverses, takes_bytes}
use Rattle.zarrs_codec_leaf.specs.declared.bytes_codec.Endianness.{Endianness}
use Rattle.zarrs_codec_leaf.specs.declared.bytes_codec.Endianness.TheVariants as endian
use Rattle.zarrs_codec_leaf.proofs.Encodings.{decoded-cells, decoded-none, encoding_of-bytes}
use Rattle.zarrs_codec_shard.specs.CellParts.{PushesSubchunk}
use Rattle.zarrs_codec_shard.specs.Sharded.{SubchunkMeaning, is_all_fill}
use Rattle.zarrs_codec_shard.specs.Subchunks.{subchunk_at}
use Rattle.zarrs_codec_shard.specs.declared.shard_index.ShardWriter.{ShardWriter}
use Rattle.zarrs_codec.specs.declared.chain.CodecChain.{CodecChain}
use Rattle.zarrs_codec.specs.declared.codec.ArrayToBytesCodec.{ArrayToBytesCodec}
use Rattle.zarrs_codec.specs.declared.codec.ArrayToBytesCodec as codec
use Rattle.zarrs_codec_leaf.specs.declared.error.CodecError.{CodecError}
use Rattle.zarrs_codec_leaf.specs.declared.error.CodecError.TheVariants as error
use Rattle.zarrs_codec_chain.specs.Chain.{ChainMeaning}
use Rattle.zarrs_codec_chain.specs.Refusals.{RefusesChunkDecoding}
use Rattle.zarrs_codec.specs.ChainLaws.{same_cells}
use Rattle.zarrs_codec.specs.Chains.{array_to_array_of, array_to_bytes_of, behind, chain_meaning, codec_meaning}
use Rattle.zarrs_codec.specs.Chains.{codec_keeps_cells, keeps_cells, keeps_order, leaf_meaning, no_codec}
use Rattle.zarrs_codec.specs.KeptCells.{WritesCells}
use Rattle.zarrs_codec.specs.Shardings.{cells_of, subchunk_meaning, PushesCells, ReadsCells, RefusesCopy}

-- no cell's bytes are put in reverse
none_reversed : (e : Option Endianness) (k : Kind) → keeps_order e ≡ true → reverses e k ≡ false
none_reversed (Some endian.Big) k is = cc
none_reversed (Some endian.Little) k is = refl
none_reversed None k is = refl

-- bytes are the encoding of the cells that they are in memory
module _ (t : DataType) (b : List ℕ) (cs : List Cell) (is : cells (kind t) (fixed b) ≡ Some cs) where
  bytes_kept : (e : Option Endianness) → keeps_order e ≡ true → takes_bytes e (kind t) ≡ true → (bytes_meaning_of e).encoded (kind t) cs ≡ Some b
  bytes_kept e keeps taken =
      ap (option_and_then (λ x. (bytes_meaning_of e).encoded (kind t) x)) (sym is)
      ∙ encoding_of-bytes e t b b taken (λ r. refl) (λ r. absurd (false≢true (sym (none_reversed e (kind t) keeps) ∙ r))) (subst (λ (o : Option (List Cell)). IsSome o) (sym is) refl)

  codec_kept : (codecs : List ArrayToArrayCodec) (c : ArrayToBytesCodec) (empty : Bool) (f : Cell) (sub : List ℕ) → no_codec codecs ≡ true → codec_keeps_cells c ≡ true
      → (behind codecs (codec_meaning c)).fits (kind t) sub ≡ true → (behind codecs (codec_meaning c)).encoded empty (kind t) f sub cs ≡ Some b
  codec_kept [] (codec.Bytes bytes) empty f sub none keeps fits = bytes_kept (endian_of bytes) keeps fits
  codec_kept [] c empty f sub none keeps fits = cc
  codec_kept (x ∷ codecs) c empty f sub none keeps fits = cc

  pub chain_kept : (chain : CodecChain) (empty : Bool) (f : Cell) (sub : List ℕ) → keeps_cells chain ≡ true → (chain_meaning chain).fits (kind t) sub ≡ true
      → (chain_meaning chain).encoded empty (kind t) f sub cs ≡ Some b
  chain_kept chain empty f sub keeps fits =
      let both = and_parts (no_codec (array_to_array_of chain)) (codec_keeps_cells (array_to_bytes_of chain)) keeps in
      codec_kept (array_to_array_of chain) (array_to_bytes_of chain) empty f sub both.0 both.1 fits

  codec_written : (codecs : List ArrayToArrayCodec) (c : ArrayToBytesCodec) (empty : Bool) (f : Cell) (sub : List ℕ) → no_codec codecs ≡ true → codec_keeps_cells c ≡ true
      → (leaf_meaning c).takes (kind t) ≡ true → (behind codecs (codec_meaning c)).encoded empty (kind t) f sub cs ≡ Some b
  codec_written [] (codec.Bytes bytes) empty f sub none keeps taken = bytes_kept (endian_of bytes) keeps taken
  codec_written [] c empty f sub none keeps taken = cc
  codec_written (x ∷ codecs) c empty f sub none keeps taken = cc

pub writes_kept : (chain : CodecChain) (t : DataType) → keeps_cells chain ≡ true → (leaf_meaning (array_to_bytes_of chain)).takes (kind t) ≡ true
    → WritesCells (chain_meaning chain) (kind t)
writes_kept chain t keeps taken =
    let both = and_parts (no_codec (array_to_array_of chain)) (codec_keeps_cells (array_to_bytes_of chain)) keeps in
    record {
      bytes = λ empty f s b cs is. codec_written t b cs is (array_to_array_of chain) (array_to_bytes_of chain) empty f s both.0 both.1 taken;
    }

kept_part : (left : Bool) (encoded : Option (List ℕ)) (b : List ℕ) → encoded ≡ Some b → (if left then Some None else option_map Some encoded) ≡ Some (if left then None else Some b)
kept_part true encoded b is = refl
kept_part false encoded b is = ap (option_map Some) is

-- a subchunk whose cells are written as they stand in memory
pub pushes_kept : (chain : CodecChain) (t : DataType) (empty : Bool) (f : Cell) (s sub : List ℕ) (n : ℕ) (bytes : List ℕ) (old new : ShardWriter) → keeps_cells chain ≡ true
    → (chain_meaning chain).fits (kind t) sub ≡ true → PushesSubchunk (kind t) empty f s sub n bytes old new
    → PushesCells (subchunk_meaning (chain_meaning chain) empty (kind t) f sub) empty f (subchunk_at s sub (cells_of (kind t) (fixed bytes)) n) old new
pushes_kept chain t empty f s sub n bytes old new keeps fits x =
    let m : SubchunkMeaning = subchunk_meaning (chain_meaning chain) empty (kind t) f sub in
    let cs = subchunk_at s sub x.extracts.held n in
    let same : subchunk_at s sub (cells_of (kind t) (fixed bytes)) n ≡ cs = ap (λ o. subchunk_at s sub (unwrap_or o []) n) x.extracts.old_is in
    let left : Bool = not empty && is_all_fill f cs in
    subst (λ (y : List Cell). PushesCells m empty f y old new) (sym same) (record {
      part = if left then None else Some x.added;
      part_is = kept_part left (m.encoded cs) x.added (chain_kept t x.added cs x.extracts.new_is chain empty f sub keeps fits);
      pushes = x.pushes;
    })

-- ---- subchunks that are read as they stand in the shard

module _ (t : DataType) (f : Cell) (sub b : List ℕ) where
  codec_same : (codecs : List ArrayToArrayCodec) (c : ArrayToBytesCodec) → no_codec codecs ≡ true → codec_keeps_cells c ≡ true → (leaf_meaning c).takes (kind t) ≡ true
      → HasCells (kind t) (fixed b) (position_count sub) → cells (kind t) (fixed b) ≡ (behind codecs (codec_meaning c)).decoded (kind t) f sub b
  codec_same [] (codec.Bytes bytes) none keeps taken has =
      let e = endian_of bytes in
      (decoded-cells e t b b taken (λ r. refl) (λ r. absurd (false≢true (sym (none_reversed e (kind t) keeps) ∙ r))) (position_count sub) has).0
      ∙ sym (same_cells (codec_meaning (codec.Bytes bytes)) (kind t) f sub (Some b))
  codec_same [] c none keeps taken has = cc
  codec_same (x ∷ codecs) c none keeps taken has = cc

  codec_none : (codecs : List ArrayToArrayCodec) (c : ArrayToBytesCodec) → no_codec codecs ≡ true → codec_keeps_cells c ≡ true → (leaf_meaning c).takes (kind t) ≡ true
      → (HasCells (kind t) (fixed b) (position_count sub) → ⊥) → (behind codecs (codec_meaning c)).decoded (kind t) f sub b ≡ None
  codec_none [] (codec.Bytes bytes) none keeps taken fails =
      same_cells (codec_meaning (codec.Bytes bytes)) (kind t) f sub (Some b) ∙ decoded-none (endian_of bytes) t (position_count sub) b taken fails
  codec_none [] c none keeps taken fails = cc
  codec_none (x ∷ codecs) c none keeps taken fails = cc

pub reads_kept : (chain : CodecChain) (t : DataType) (f : Cell) (sub : List ℕ) → keeps_cells chain ≡ true → (leaf_meaning (array_to_bytes_of chain)).takes (kind t) ≡ true
    → ReadsCells (chain_meaning chain) (kind t) f sub
reads_kept chain t f sub keeps taken =
    let both = and_parts (no_codec (array_to_array_of chain)) (codec_keeps_cells (array_to_bytes_of chain)) keeps in
    record {
      same = λ b has. codec_same t f sub b (array_to_array_of chain) (array_to_bytes_of chain) both.0 both.1 taken has;
      none = λ b fails. codec_none t f sub b (array_to_array_of chain) (array_to_bytes_of chain) both.0 both.1 taken fails;
    }

some_counted : (n : ℕ) (o : Option (List Cell)) → IsSomeAnd o (λ cs. length cs ≡ n) → IsSome o
some_counted n None has = absurd has
some_counted n (Some cs) has = refl

-- a chunk whose cells are lent
module _ (m : ChainMeaning) (k : Kind) (f : Cell) (s b : List ℕ) (reads : ReadsCells m k f s) where
  pub lent_decoded : (r : Result (ArrayBytes) CodecError) → IfOk r (λ made. data_of made ≡ fixed b) → IfOk r (λ _. HasCells k (fixed b) (position_count s))
      → IfOk r (λ made. cells k (data_of made) ≡ m.decoded k f s b)
  lent_decoded (Ok made) lent has = ap (cells k) lent ∙ reads.same b has
  lent_decoded (Err e) lent has = lent

  pub lent_some : (r : Result (ArrayBytes) CodecError) → IfOk r (λ made. data_of made ≡ fixed b) → IfOk r (λ _. HasCells k (fixed b) (position_count s))
      → IfOk r (λ made. IsSome (cells k (data_of made)))
  lent_some (Ok made) lent has = subst (λ d. IsSome (cells k d)) (sym lent) (some_counted (position_count s) (cells k (fixed b)) has)
  lent_some (Err e) lent has = lent

  pub lent_refused : (e : CodecError) → RefusesCopy k s b e → RefusesChunkDecoding m k f s b e
  lent_refused (error.DoesNotFit why) fails = reads.none b fails
  lent_refused error.SizeOverflow fails = absurd fails
  lent_refused error.OutOfMemory fails = fails
