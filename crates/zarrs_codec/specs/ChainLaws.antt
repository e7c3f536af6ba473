-- The law of every chain of the code, from those of its codecs.
use Rattle.std.proofs.Common.{◌≡◌, ◌+◌, ◌*◌, ◌<◌, ◌^◌, ◌&&◌, ℕ, Bool, true, false, List, [], ◌∷◌, length, get_or, Option, None, Some}
use Rattle.std.proofs.Common.{refl, sym, ap, subst, ◌∙◌, arith}
use Rattle.std.specs.Prelude.{option_and_then, slice_index_or}
use Rattle.std.specs.List.{list_any, range_with_len}
use Rattle.std.proofs.lemmas.Bool.{and_right}
use Rattle.std.proofs.lemmas.List.Folds.{list_any_none}
use Rattle.std.proofs.lemmas.List.FromFn.{get_or-range_with_len, length-range_with_len}
use Rattle.zarrs_data_type.specs.Kind.{Kind, cell_size}
use Rattle.zarrs_data_type.specs.Kind as type
use Rattle.zarrs_data_type.specs.Cell.{Cell, none, held_size, is_value, are_values}
use Rattle.zarrs_subset.specs.Boxes.{position_count}
use Rattle.zarrs_subset.specs.Regions.{Box, overlap_of, seen_from}
use Rattle.zarrs_codec_shard.specs.Shards.{shard_parts}
use Rattle.zarrs_codec_shard.specs.Subchunks.{is_cut_by, subchunk_box, subchunk_count}
use Rattle.zarrs_codec_shard.proofs.Sizes.{part_size}
use Rattle.zarrs_codec_array.specs.ArrayCodecs.{arrays_meaning, arrays-lawful}
use Rattle.zarrs_codec_array.specs.declared.array.ArrayToArrayCodec.{ArrayToArrayCodec}
use Rattle.zarrs_codec_leaf.specs.Bytes.{endian_of}
use Rattle.zarrs_codec_leaf.specs.Leaf.{LeafMeaning, IsLawfulLeaf}
use Rattle.zarrs_codec_optional.specs.CellsCodecLaws.{cells-lawful}
use Rattle.zarrs_codec_shard.specs.Sharded.{IsLawfulSubchunk, IsLawfulShard}
use Rattle.zarrs_codec_shard.specs.PartialShards.{PartialChange, after, stored_cells, IsUpdated}
use Rattle.zarrs_codec_shard.proofs.PartialCells.{shard-updates}
use Rattle.zarrs_codec_shard.proofs.ShardLaws.{shard-lawful}
use Rattle.zarrs_codec.specs.declared.codec.ArrayToBytesCodec.{ArrayToBytesCodec}
use Rattle.zarrs_codec.specs.declared.codec.ArrayToBytesCodec as codec
use Rattle.zarrs_codec.specs.declared.chain.CodecChain.{CodecChain}
use Rattle.zarrs_codec_chain.specs.Chain.{ChainMeaning, IsLawfulChain, chunk_cells}
use Rattle.zarrs_metadata_parts.specs.Lists.{sizes_of}
use Rattle.zarrs_codec.specs.Chains.{array_to_array_of, array_to_bytes_of, behind, bytes_codec_data}
use Rattle.zarrs_codec.specs.Chains.{codec_meaning, is_at_start, leaf_meaning, chain_meaning, no_codec}
use Rattle.zarrs_codec.specs.Configurations.{BytesCodecData, cells_meaning_of, no_cells, whole_chunk, with_places}
use Rattle.zarrs_codec.specs.Configurations as configured
use Rattle.zarrs_codec_chain.specs.Deciding.{PlacesDecide}
use Rattle.zarrs_codec_chain.proofs.DecidingPlaces.{all_decide, cells_decide, shards_decide}
use Rattle.zarrs_codec_chain.specs.Places.{Places, boxes_meet, all_places-inside, cell_places, cell_places-inside, places_behind-inside, shard_places-inside}
use Rattle.zarrs_codec.specs.Shardings.{reads_large_part, sharded, subchunk_meaning}
use Rattle.zarrs_codec.specs.Through.{not_too_large, through-lawful}

no_cells-lawful : IsLawfulLeaf no_cells
no_cells-lawful = record {
  round_trip = λ k cs b values made. cc;
  decoded_len = λ k n b cs made. cc;
  decoded_values = λ k n b cs made. cc;
  untaken = λ k cs not. refl;
  untaken_decoded = λ k n b not. refl;
}

leaf_data-lawful : (c : BytesCodecData) → IsLawfulLeaf (cells_meaning_of c)
leaf_data-lawful (configured.cells codec) = cells-lawful codec
leaf_data-lawful (configured.sharding chunk_shape at_start front last) = no_cells-lawful

pub leaf-lawful : (c : ArrayToBytesCodec) → IsLawfulLeaf (leaf_meaning c)
leaf-lawful c = leaf_data-lawful (bytes_codec_data c)

pub whole_chunk-lawful : (leaf : LeafMeaning) → IsLawfulLeaf leaf → IsLawfulChain (whole_chunk leaf)
whole_chunk-lawful leaf law = record {
  round_trip = λ empty k f s cs b values len made. ap (λ n. leaf.decoded k n b) (sym len) ∙ law.round_trip k cs b values made;
  decoded_len = λ k f s b cs made. law.decoded_len k _ b cs made;
  decoded_values = λ k f s b cs made. law.decoded_values k _ b cs made;
  compacted_same = λ k f s b less made short. cc;
  compacted_differs = λ s b less made. cc;
  encoded_compact = λ empty k f s cs b len made. refl;
  unfit = λ empty k f s cs not. law.untaken k cs not;
  unfit_decoded = λ k f s b not. law.untaken_decoded k _ b not;
  partly_updates = λ empty k f s stored part given held change filled values count start shape made is. cc;
  places_inside = all_places-inside;
  places_decide = all_decide (whole_chunk leaf).decoded;
  reads_within = λ k f s part b. not_too_large false k f s;
}

-- the law does not depend on which of its bytes a read of a part needs, if these decide its cells
pub with_places-lawful : (places : Places) (m : ChainMeaning) → IsLawfulChain m
    → ((k : Kind) (s : List ℕ) (part : Box) (b : List ℕ) (place : ℕ) → places k s part b place ≡ true → place < length b) → PlacesDecide m.decoded places
    → IsLawfulChain (with_places places m)
with_places-lawful places m law inside decide = record {
  round_trip = law.round_trip;
  decoded_len = law.decoded_len;
  decoded_values = law.decoded_values;
  compacted_same = law.compacted_same;
  compacted_differs = law.compacted_differs;
  encoded_compact = law.encoded_compact;
  unfit = law.unfit;
  unfit_decoded = law.unfit_decoded;
  partly_updates = λ empty k f s stored part given held change filled values count start shape made is.
      updates empty k f s stored part given held change filled values count start shape made (sym (same stored k f s) ∙ is);
  places_inside = inside;
  places_decide = decide;
  reads_within = λ k f s part b cells fill. refl;
}
  where
    same : (stored : Option (List ℕ)) (k : Kind) (f : Cell) (s : List ℕ) → chunk_cells (with_places places m) k f s stored ≡ chunk_cells m k f s stored
    same None k f s = refl
    same (Some b) k f s = refl

    updates : (empty : Bool) (k : Kind) (f : Cell) (s : List ℕ) (stored : Option (List ℕ)) (part : Box) (given held : List Cell) (change : PartialChange)
        → is_value k f ≡ true → are_values k given ≡ true → length given ≡ position_count part.shape
        → length part.start ≡ length s → length part.shape ≡ length s
        → m.partly_encoded empty k f s stored part given ≡ Some change → chunk_cells m k f s stored ≡ Some held
        → IsUpdated s part given held (chunk_cells (with_places places m) k f s (after change stored))
    updates empty k f s stored part given held change filled values count start shape made is =
        subst (IsUpdated s part given held) (sym (same (after change stored) k f s))
        (law.partly_updates empty k f s stored part given held change filled values count start shape made is)

-- the cells of a chunk behind no codec
pub same_cells : (m : ChainMeaning) (k : Kind) (f : Cell) (s : List ℕ) (stored : Option (List ℕ))
    → chunk_cells (behind [] m) k f s stored ≡ chunk_cells m k f s stored
same_cells m k f s None = refl
same_cells m k f s (Some b) = go (m.decoded k f s b)
  where
    go : (o : Option (List Cell)) → option_and_then (λ cs. Some cs) o ≡ o
    go None = refl
    go (Some cs) = refl

-- parts are written as by the chain `m` alone, if there is no codec before it
module _ (m : ChainMeaning) (law : IsLawfulChain m) where
  partly : (codecs : List ArrayToArrayCodec) (empty : Bool) (k : Kind) (f : Cell) (s : List ℕ)
      (stored : Option (List ℕ)) (part : Box) (given held : List Cell) (change : PartialChange)
      → is_value k f ≡ true → are_values k given ≡ true → length given ≡ position_count part.shape → length part.start ≡ length s → length part.shape ≡ length s
      → (behind codecs m).partly_encoded empty k f s stored part given ≡ Some change → chunk_cells (behind codecs m) k f s stored ≡ Some held
      → IsUpdated s part given held (chunk_cells (behind codecs m) k f s (after change stored))
  partly [] empty k f s stored part given held change filled values count start shape made is =
      subst (IsUpdated s part given held) (sym (same_cells m k f s (after change stored)))
      (law.partly_updates empty k f s stored part given held change filled values count start shape made (sym (same_cells m k f s stored) ∙ is))
  partly (codec ∷ codecs) empty k f s stored part given held change filled values count start shape made is = cc

  decide : (codecs : List ArrayToArrayCodec) → PlacesDecide (behind codecs m).decoded (behind codecs m).places
  decide [] k f s part x y cs ds is_x is_y long same =
      law.places_decide k f s part x y cs ds (sym (same_cells m k f s (Some x)) ∙ is_x) (sym (same_cells m k f s (Some y)) ∙ is_y) long same
  decide (codec ∷ codecs) k f s part x y cs ds is_x is_y long same =
      all_decide (behind (codec ∷ codecs) m).decoded k f s part x y cs ds is_x is_y long same

  within : (codecs : List ArrayToArrayCodec) (k : Kind) (f : Cell) (s : List ℕ) (part : Box) (b : List ℕ)
      → position_count s * cell_size k < 2 ^ 64 → position_count s * held_size k f < 2 ^ 64 → (behind codecs m).reads_too_large k f s part b ≡ false
  within [] k f s part b = law.reads_within k f s part b
  within (codec ∷ codecs) k f s part b =
      let a = arrays_meaning (codec ∷ codecs) in
      not_too_large (a.fits s && m.leaves_out (a.shape s) b) k f s

  pub behind-lawful : (codecs : List ArrayToArrayCodec) → IsLawfulChain (behind codecs m)
  behind-lawful codecs =
      let t = through-lawful (arrays_meaning codecs) m (arrays-lawful codecs) law in
      record {
        round_trip = t.round_trip;
        decoded_len = t.decoded_len;
        decoded_values = t.decoded_values;
        compacted_same = t.compacted_same;
        compacted_differs = t.compacted_differs;
        encoded_compact = t.encoded_compact;
        unfit = t.unfit;
        unfit_decoded = t.unfit_decoded;
        partly_updates = partly codecs;
        places_inside = places_behind-inside (no_codec codecs) m.places law.places_inside;
        places_decide = decide codecs;
        reads_within = within codecs;
      }

module _ (sub : List ℕ) (m : ChainMeaning) (law : IsLawfulChain m) where
  -- the law of the chain of subchunks of one shape
  pub subchunk-lawful : (empty : Bool) (k : Kind) (f : Cell) → IsLawfulSubchunk k (position_count sub) (subchunk_meaning m empty k f sub)
  subchunk-lawful empty k f = record {
    round_trip = λ cs b values len made. law.round_trip empty k f sub cs b values len made;
    decoded_len = λ b cs made. law.decoded_len k f sub b cs made;
  }

-- the cells of a shard whose index stands at the end
shard_cells : (sub : List ℕ) (m : ChainMeaning) (empty : Bool) (k : Kind) (f : Cell) (s : List ℕ) (stored : Option (List ℕ))
    → chunk_cells (sharded false sub m) k f s stored ≡ stored_cells (subchunk_meaning m empty k f sub) k f s sub stored
shard_cells sub m empty k f s None = refl
shard_cells sub m empty k f s (Some b) = refl

partly_sharded : (at_start : Bool) (sub : List ℕ) (m : ChainMeaning) (law : IsLawfulChain m)
    (empty : Bool) (k : Kind) (f : Cell) (s : List ℕ)
    (stored : Option (List ℕ)) (part : Box) (given held : List Cell) (change : PartialChange)
    → is_value k f ≡ true → are_values k given ≡ true → length given ≡ position_count part.shape → length part.start ≡ length s → length part.shape ≡ length s
    → (sharded at_start sub m).partly_encoded empty k f s stored part given ≡ Some change → chunk_cells (sharded at_start sub m) k f s stored ≡ Some held
    → IsUpdated s part given held (chunk_cells (sharded at_start sub m) k f s (after change stored))
partly_sharded true sub m law empty k f s stored part given held change filled values count start shape made is = cc
partly_sharded false sub m law empty k f s stored part given held change filled values count start shape made is =
    subst (IsUpdated s part given held) (sym (shard_cells sub m empty k f s (after change stored)))
    (shard-updates (subchunk_meaning m empty k f sub) k f s sub (subchunk-lawful sub m law empty k f)
    empty stored part given held change filled values count start shape made
    (sym (shard_cells sub m empty k f s stored) ∙ is))

-- a subchunk is no larger than its chunk
shard_reads_within : (at_start : Bool) (sub : List ℕ) (m : ChainMeaning) → IsLawfulChain m → (k : Kind) (f : Cell) (s : List ℕ) (part : Box) (b : List ℕ)
    → position_count s * cell_size k < 2 ^ 64 → position_count s * held_size k f < 2 ^ 64 → (sharded at_start sub m).reads_too_large k f s part b ≡ false
shard_reads_within at_start sub m law k f s part b cells fill = go (is_cut_by s sub) refl (shard_parts at_start (subchunk_count s sub) b)
  where
    each : is_cut_by s sub ≡ true → (j : ℕ) → j < subchunk_count s sub → (o : Option (List ℕ)) → reads_large_part m k f s sub part j o ≡ false
    each cut j lt None = refl
    each cut j lt (Some x) =
        let own = subchunk_box s sub j in
        and_right (boxes_meet part own) (m.reads_too_large k f sub (seen_from (overlap_of part own) own.start) x)
        (law.reads_within k f sub (seen_from (overlap_of part own) own.start) x
        (part_size s sub j (cell_size k) cut lt cells) (part_size s sub j (held_size k f) cut lt fill))

    large : List (Option (List ℕ)) → ℕ → Bool
    large parts j = reads_large_part m k f s sub part j (slice_index_or parts j None)

    any : Option (List (Option (List ℕ))) → Bool
    any o = elim o [ None ↦ false | Some parts ↦ list_any (large parts) (range_with_len 0 (subchunk_count s sub)) ]

    at : is_cut_by s sub ≡ true → (parts : List (Option (List ℕ))) (i d : ℕ) → i < length (range_with_len 0 (subchunk_count s sub))
        → large parts (get_or (range_with_len 0 (subchunk_count s sub)) i d) ≡ false
    at cut parts i d lt =
        let count = subchunk_count s sub in
        let below : i < count = omega (arith, length-range_with_len 0 count) in
        let first : 0 + i ≡ i = omega arith in
        ap (large parts) (get_or-range_with_len 0 count i d below ∙ first) ∙ each cut i below (slice_index_or parts i None)

    go : (cut : Bool) → is_cut_by s sub ≡ cut → (o : Option (List (Option (List ℕ)))) → (cut && any o) ≡ false
    go false is o = refl
    go true is None = refl
    go true is (Some parts) = list_any_none (large parts) (range_with_len 0 (subchunk_count s sub)) (λ i d lt. at is parts i d lt)

module _ (at_start : Bool) (sub : List ℕ) (m : ChainMeaning) (law : IsLawfulChain m) where
  shard : (empty : Bool) (k : Kind) (f : Cell) (s : List ℕ) → IsLawfulShard (subchunk_meaning m empty k f sub) at_start empty k f s sub
  shard empty k f s = shard-lawful (subchunk_meaning m empty k f sub) at_start empty k f s sub (subchunk-lawful sub m law empty k f)

  pub sharded-lawful : IsLawfulChain (sharded at_start sub m)
  sharded-lawful = record {
    round_trip = λ empty k f s cs b values len made. (shard empty k f s).round_trip cs b values len made;
    decoded_len = λ k f s b cs made. (shard false k f s).decoded_len b cs made;
    decoded_values = λ k f s b cs made. (shard false k f s).decoded_values b cs made;
    compacted_same = λ k f s b less made short. (shard false k f s).compacted_same b less made short;
    compacted_differs = λ s b less made. (shard false type.bool none s).compacted_differs b less made;
    encoded_compact = λ empty k f s cs b len made. (shard empty k f s).encoded_compact cs b made;
    unfit = λ empty k f s cs not. (shard empty k f s).unfit cs not;
    unfit_decoded = λ k f s b not. (shard false k f s).unfit_decoded b not;
    partly_updates = λ empty k f s stored part given held change filled values count start shape made is.
        partly_sharded at_start sub m law empty k f s stored part given held change filled values count start shape made is;
    places_inside = shard_places-inside at_start sub;
    places_decide = shards_decide (λ k f. subchunk_meaning m false k f sub) at_start sub;
    reads_within = shard_reads_within at_start sub m law;
  }

pub codec-lawful : (c : ArrayToBytesCodec) → IsLawfulChain (codec_meaning c)
codec-lawful (codec.Sharding' p sub at before last after) =
    sharded-lawful (is_at_start at) (sizes_of sub.items) (behind before.items (codec_meaning last))
    (behind-lawful (codec_meaning last) (codec-lawful last) before.items)
codec-lawful (codec.Bytes bytes) =
    with_places-lawful cell_places
    (whole_chunk (leaf_meaning (codec.Bytes bytes)))
    (whole_chunk-lawful (leaf_meaning (codec.Bytes bytes)) (leaf-lawful (codec.Bytes bytes)))
    cell_places-inside
    (cells_decide (endian_of bytes))
codec-lawful c = whole_chunk-lawful (leaf_meaning c) (leaf-lawful c)

pub chain-lawful : (chain : CodecChain) → IsLawfulChain (chain_meaning chain)
chain-lawful chain = behind-lawful (codec_meaning (array_to_bytes_of chain)) (codec-lawful (array_to_bytes_of chain)) (array_to_array_of chain)
