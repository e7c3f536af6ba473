use Rattle.zarrs_codec.specs.Chains.{sharding_meaning}
use Rattle.zarrs_codec_chain.specs.Chunks.{RefusesToEncodePart}
use Rattle.zarrs_codec_optional.proofs.Kept.{err_kept}
use Rattle.zarrs_codec.proofs.Cuts.{cut_partial}
use Rattle.zarrs_data_type.specs.CellTypes.{chunk_fill, chunk_kind}
use Rattle.std.proofs.Common.{arith, length, rules, ◌≡◌, true, Option, Some, IfOk, map, option_map, sym, ap, subst, ◌∙◌}
use Rattle.std.proofs.lemmas.List.{length-map}
use Rattle.std.proofs.lemmas.Result.{IfErr-weaker}
use Rattle.zarrs_data_type.specs.ArrayData.{data_of}
use Rattle.zarrs_subset.specs.Boxes.{position_count}
use Rattle.zarrs_subset.specs.Regions.{box_of}
use Rattle.zarrs_codec_shard.specs.PartialShards.{PartialChange, stored_parts}
use Rattle.zarrs_codec_shard.specs.ShardIndex.{range_part}
use Rattle.zarrs_codec_shard.specs.ShardPatches.{change_of}
use Rattle.zarrs_codec_shard.specs.SubchunkData.{chunk_shape, subchunk_shape}
use Rattle.zarrs_codec_shard.specs.Subchunks.{subchunk_count}
use Rattle.zarrs_codec_chain.specs.Chain.{ChainMeaning}
use Rattle.zarrs_codec_chain.specs.Options.{stores_empty_chunks}
use Rattle.zarrs_codec.specs.Chains.{chain_meaning, inner_chain_of, is_at_start, location_of, subchunk_sizes_of}
use Rattle.zarrs_metadata_parts.specs.Lists.{sizes_of}
use Rattle.zarrs_codec.specs.PartialShardings.{stored_bytes}
use Rattle.zarrs_codec.proofs.PatchedShards.{at_end, is_opened, IsOpened}
use Rattle.zarrs_codec.proofs.sharding.ShardingCodec.partial_encode_shard.Goals as goal

pub patch_shard-requires-clause-update : goal.patch_shard-requires-clause-update
patch_shard-requires-clause-update c =
    let k = chunk_kind c.args.chunk.now in
    let f = chunk_fill c.args.chunk.now in
    let empty = stores_empty_chunks c.args.options.now in
    let s = c.args.chunk.now.shape.now in
    let sub = sizes_of (subchunk_sizes_of c.args.self.now) in
    let stored = option_map (λ encoded. encoded.now) c.args.stored in
    let b = stored_bytes stored in
    let part = box_of c.args.part.now in
    let d = data_of c.args.bytes.now in
    let subchunks = c.in_ok-subchunks.subchunks in
    let ranges = c.in-Some-2.ranges.items in
    let count = c.in-Some.count in
    let m : ChainMeaning = chain_meaning (inner_chain_of c.args.self.now) in
    let at = is_at_start (location_of c.args.self.now) in
    let shape_is = c.in_ok-subchunks.ensures.shape in
    let sub_is = c.in_ok-subchunks.ensures.sub in
    let read : stored_parts count stored ≡ Some (map (range_part b) ranges) = search rules in
    let r : IsOpened m at empty k f s sub part d stored (chunk_shape subchunks) (subchunk_shape subchunks) (map (range_part b) ranges) =
    is_opened m at empty k f s sub part d stored (chunk_shape subchunks) (subchunk_shape subchunks) (map (range_part b) ranges) count (position_count part.shape) shape_is sub_is (at_end at c.requires.supported) subchunks.cut
    (subst (λ x. m.fits k x ≡ true) sub_is c.in_ok-subchunks.ensures.fits) c.in-Some.ensures.none c.in-Some.ensures.few read c.requires.cells in
    let counted : length ranges ≡ subchunk_count (chunk_shape subchunks) (subchunk_shape subchunks) = sym (length-map ranges (range_part b)) ∙ r.long in
    record {
      dimensions = c.requires.dimensions ∙ ap length (sym shape_is);
      cells = c.requires.cells;
      ranges = record {
        within = search rules;
        count = counted;
        few = omega (arith, counted, c.in-Some.ensures.none, c.in-Some.ensures.few);
        parts = subst (λ j. stored_parts j stored ≡ Some (map (range_part b) ranges)) (c.in-Some.ensures.none ∙ sym counted) read;
      };
    }

pub returns : goal.returns
returns c =
    let k = chunk_kind c.args.chunk.now in
    let f = chunk_fill c.args.chunk.now in
    let empty = stores_empty_chunks c.args.options.now in
    let s = c.args.chunk.now.shape.now in
    let sub = sizes_of (subchunk_sizes_of c.args.self.now) in
    let stored = option_map (λ encoded. encoded.now) c.args.stored in
    let b = stored_bytes stored in
    let part = box_of c.args.part.now in
    let d = data_of c.args.bytes.now in
    let subchunks = c.in_ok-subchunks.subchunks in
    let ranges = c.in-Some-2.ranges.items in
    let count = c.in-Some.count in
    let m : ChainMeaning = chain_meaning (inner_chain_of c.args.self.now) in
    let at = is_at_start (location_of c.args.self.now) in
    let shape_is = c.in_ok-subchunks.ensures.shape in
    let sub_is = c.in_ok-subchunks.ensures.sub in
    let read : stored_parts count stored ≡ Some (map (range_part b) ranges) = search rules in
    let r : IsOpened m at empty k f s sub part d stored (chunk_shape subchunks) (subchunk_shape subchunks) (map (range_part b) ranges) =
    is_opened m at empty k f s sub part d stored (chunk_shape subchunks) (subchunk_shape subchunks) (map (range_part b) ranges) count (position_count part.shape) shape_is sub_is (at_end at c.requires.supported) subchunks.cut
    (subst (λ x. m.fits k x ≡ true) sub_is c.in_ok-subchunks.ensures.fits) c.in-Some.ensures.none c.in-Some.ensures.few read c.requires.cells in
    record {
      written = subst (λ (x : Option PartialChange). IfOk c.patch_shard.result (λ write. x ≡ Some (change_of write))) (sym r.writing) c.patch_shard.ensures.written;
      refused = IfErr-weaker c.patch_shard.result _ _ r.refusal c.patch_shard.ensures.refused;
    }

pub returns-in_err-subchunks-clause-refused : goal.returns-in_err-subchunks-clause-refused
returns-in_err-subchunks-clause-refused c =
    let x = c.args.self.now in
    let e = c.in_err-subchunks.field-0.0 in
    err_kept c.from_residual.result e (RefusesToEncodePart (sharding_meaning x) (stores_empty_chunks c.args.options.now) c.args.chunk.now (option_map (λ encoded. encoded.now) c.args.stored) (box_of c.args.part.now) (data_of c.args.bytes.now)) c.from_residual.ensures.1
    (cut_partial (chain_meaning (inner_chain_of x)) (is_at_start (location_of x)) (chunk_kind c.args.chunk.now) (chunk_fill c.args.chunk.now) c.args.chunk.now.shape.now (sizes_of (subchunk_sizes_of x)) (stores_empty_chunks c.args.options.now) (option_map (λ encoded. encoded.now) c.args.stored) (box_of c.args.part.now) (data_of c.args.bytes.now) e c.in_err-subchunks.ensures.refused)
