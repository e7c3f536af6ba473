use Rattle.zarrs_codec_chain.specs.Chunks.{RefusesToDecode}
use Rattle.zarrs_codec.proofs.Cuts.{cut_decoding}
use Rattle.zarrs_data_type.specs.CellTypes.{chunk_fill, chunk_kind, filling, kind_of, shape_of}
use Rattle.std.proofs.Common.{rules, arith, ◌≡◌, ◌∙◌, ◌<◌, ◌*◌, ◌≤◌, ◌^◌, true, false, List, map, length, get_or, Some, None, Option, sym, ap, subst}
use Rattle.std.specs.Prelude.{is_some, slice_range, option_map, IsSome}
use Rattle.std.specs.List.{list_all, All}
use Rattle.std.specs.Result.{IfOk}
use Rattle.std.proofs.lemmas.List.{length-map}
use Rattle.std.proofs.lemmas.Bool.{OnTrue_at}
use Rattle.std.proofs.lemmas.Result.{IfErr-weaker, IfOk-weaker}
use Rattle.zarrs_data_type.specs.Kind.{cell_size}
use Rattle.zarrs_data_type.specs.Cell.{Cell, held_size}
use Rattle.zarrs_data_type.specs.ArrayData.{data_of}
use Rattle.zarrs_data_type.specs.Cells.{cells, HasCells}
use Rattle.zarrs_subset.specs.Boxes.{position_count}
use Rattle.zarrs_codec_array.specs.ArrayCodecs.{arrays_meaning, arrays-lawful}
use Rattle.zarrs_codec_array.specs.Gathered.{encoded_shape}
use Rattle.zarrs_codec_optional.proofs.Kept.{err_kept}
use Rattle.zarrs_data_type.specs.RegionData.{region_data}
use Rattle.zarrs_codec_shard.specs.ShardIndex.{range_part, IsRangeWithin}
use Rattle.zarrs_codec_shard.specs.Shards.{shard_parts}
use Rattle.zarrs_codec_shard.specs.SubchunkData.{chunk_shape, subchunk_shape, StartsChunk}
use Rattle.zarrs_codec_shard.specs.Subchunks.{subchunk_count}
use Rattle.zarrs_codec_shard.proofs.Sizes.{part_size}
use Rattle.zarrs_codec_chain.specs.Chain.{ChainMeaning}
use Rattle.zarrs_codec_chain.specs.Refusals.{RefusesChunkDecoding}
use Rattle.zarrs_codec.specs.Chains.{behind, chain_meaning, codec_meaning, inner_chain_of, is_at_start, location_of, sharding_meaning, subchunk_sizes_of}
use Rattle.zarrs_metadata_parts.specs.Lists.{sizes_of}
use Rattle.zarrs_codec.specs.ChainLaws.{chain-lawful, sharded-lawful}
use Rattle.zarrs_codec.specs.Shardings.{decoded_parts, CopiesParts, HasFirstCells, ReadsCells, RefusesCells, RefusesCopies}
use Rattle.zarrs_codec.proofs.CopiedParts.{some_first}
use Rattle.zarrs_codec.proofs.KeptCells.{lent_decoded, lent_refused, lent_some}
use Rattle.zarrs_codec.proofs.Behind.{count_behind, decoded-has_cells, held_behind, refused_behind}
use Rattle.zarrs_codec.proofs.PartCells.{cells_all, cells_left, cells_more, cells_refused, cells_started, fill_refused, part_at, present_parts, puts_part, held_cells, is_read, IsRead}
use Rattle.zarrs_codec.proofs.+decode.Goals as goal

-- ---- subchunk by subchunk

pub sharding::ShardingCodec::decode_part-put-requires-clause-part :
    goal.sharding::ShardingCodec::decode_part-put-requires-clause-part
sharding::ShardingCodec::decode_part-put-requires-clause-part t c =
    let k = kind_of c.args.cell_type.now in
    let f = filling c.args.cell_type.now in
    let m : ChainMeaning = chain_meaning (inner_chain_of c.args.self.now) in
    let d = data_of c.in_ok-part.part in
    let is : cells k d ≡ m.decoded k f (subchunk_shape c.args.subchunks.now) c.args.encoded.now = subst (λ x. cells k d ≡ m.decoded k f x c.args.encoded.now) c.shape.ensures
    (subst (λ x. cells k d ≡ (chain_meaning x).decoded k f c.shape.result.now c.args.encoded.now) c.inner_codecs.ensures c.in_ok-part.ensures.cells) in
    decoded-has_cells m (chain-lawful (inner_chain_of c.args.self.now)) k f (subchunk_shape c.args.subchunks.now) c.args.encoded.now d is c.in_ok-part.ensures.some

pub sharding::ShardingCodec::decode_part-returns-clause-put :
    goal.sharding::ShardingCodec::decode_part-returns-clause-put
sharding::ShardingCodec::decode_part-returns-clause-put t c =
    let k = kind_of c.args.cell_type.now in
    let f = filling c.args.cell_type.now in
    let m : ChainMeaning = chain_meaning (inner_chain_of c.args.self.now) in
    let sub = subchunk_shape c.args.subchunks.now in
    let b = c.args.encoded.now in
    let d = data_of c.in_ok-part.part in
    let is : cells k d ≡ m.decoded k f sub b = subst (λ x. cells k d ≡ m.decoded k f x b) c.shape.ensures
    (subst (λ x. cells k d ≡ (chain_meaning x).decoded k f c.shape.result.now b) c.inner_codecs.ensures c.in_ok-part.ensures.cells) in
    puts_part m k f (chunk_shape c.args.subchunks.now) sub c.args.number b d (region_data c.args.chunk) (region_data c.in_ok-put.field-0) c.requires.number is c.in_ok-part.ensures.some c.in_ok-put.ensures

pub sharding::ShardingCodec::decode_parts-returns-in_default-clause-refused :
    goal.sharding::ShardingCodec::decode_parts-returns-in_default-clause-refused
sharding::ShardingCodec::decode_parts-returns-in_default-clause-refused t c =
    let k = kind_of c.args.cell_type.now in
    let f = filling c.args.cell_type.now in
    let s = chunk_shape c.args.subchunks.now in
    let parts = map (range_part c.args.encoded.now) c.args.ranges.now in
    let why : (c.are_present-is_whole.result ≡ false) × (2 ^ 64 ≤ position_count s * held_size k f) = search rules in
    let absent : list_all is_some parts ≡ false = present_parts c.args.encoded.now c.args.ranges.now ∙ sym c.are_present-is_whole.ensures ∙ why.0 in
    fill_refused (chain_meaning (inner_chain_of c.args.self.now)) k f s (subchunk_shape c.args.subchunks.now) parts absent why.1

pub sharding::ShardingCodec::decode_parts-returns-then-reads_cells-clause-cells :
    goal.sharding::ShardingCodec::decode_parts-returns-then-reads_cells-clause-cells
sharding::ShardingCodec::decode_parts-returns-then-reads_cells-clause-cells t c =
    let k = kind_of c.args.cell_type.now in
    let f = filling c.args.cell_type.now in
    let m : ChainMeaning = chain_meaning (inner_chain_of c.args.self.now) in
    let s = chunk_shape c.args.subchunks.now in
    let sub = subchunk_shape c.args.subchunks.now in
    let b = c.args.encoded.now in
    let ranges = c.args.ranges.now in
    let parts = map (range_part b) ranges in
    let old = region_data c.in-Some.chunk in
    let starts : StartsChunk k f s c.are_present-is_whole.result old = search rules in
    let first = cells_started m k f s sub parts starts.filler old c.args.subchunks.now.cut
    (λ absent. starts.fill_is (c.are_present-is_whole.ensures ∙ sym (present_parts b ranges) ∙ absent)) starts.cells_are in
    let reads : ReadsCells m k f sub = subst (λ x. ReadsCells (chain_meaning x) k f sub) c.inner_codecs.ensures (OnTrue_at c.if-reads_cells.true c.reads_cells.ensures.reads f sub) in
    let count : length parts ≡ subchunk_count s sub = length-map ranges (range_part b) ∙ c.requires.count in
    IfOk-weaker c.with_parts.result (λ made. CopiesParts k s sub parts old (data_of made)) (λ made. cells k (data_of made) ≡ decoded_parts m k f s sub parts)
    (λ made copied. cells_all m k f s sub parts (data_of made) c.args.subchunks.now.cut count (copied m f reads first))
    c.with_parts.ensures.copied

pub sharding::ShardingCodec::decode_parts-returns-then-reads_cells-clause-some :
    goal.sharding::ShardingCodec::decode_parts-returns-then-reads_cells-clause-some
sharding::ShardingCodec::decode_parts-returns-then-reads_cells-clause-some t c =
    let k = kind_of c.args.cell_type.now in
    let f = filling c.args.cell_type.now in
    let m : ChainMeaning = chain_meaning (inner_chain_of c.args.self.now) in
    let s = chunk_shape c.args.subchunks.now in
    let sub = subchunk_shape c.args.subchunks.now in
    let b = c.args.encoded.now in
    let ranges = c.args.ranges.now in
    let parts = map (range_part b) ranges in
    let old = region_data c.in-Some.chunk in
    let starts : StartsChunk k f s c.are_present-is_whole.result old = search rules in
    let first = cells_started m k f s sub parts starts.filler old c.args.subchunks.now.cut
    (λ absent. starts.fill_is (c.are_present-is_whole.ensures ∙ sym (present_parts b ranges) ∙ absent)) starts.cells_are in
    let reads : ReadsCells m k f sub = subst (λ x. ReadsCells (chain_meaning x) k f sub) c.inner_codecs.ensures (OnTrue_at c.if-reads_cells.true c.reads_cells.ensures.reads f sub) in
    IfOk-weaker c.with_parts.result (λ made. CopiesParts k s sub parts old (data_of made)) (λ made. IsSome (cells k (data_of made)))
    (λ made copied. some_first k s sub parts m f (length parts) (data_of made) (copied m f reads first))
    c.with_parts.ensures.copied

pub sharding::ShardingCodec::decode_parts-returns-then-reads_cells-clause-refused :
    goal.sharding::ShardingCodec::decode_parts-returns-then-reads_cells-clause-refused
sharding::ShardingCodec::decode_parts-returns-then-reads_cells-clause-refused t c =
    let k = kind_of c.args.cell_type.now in
    let f = filling c.args.cell_type.now in
    let m : ChainMeaning = chain_meaning (inner_chain_of c.args.self.now) in
    let s = chunk_shape c.args.subchunks.now in
    let sub = subchunk_shape c.args.subchunks.now in
    let parts = map (range_part c.args.encoded.now) c.args.ranges.now in
    let reads : ReadsCells m k f sub = subst (λ x. ReadsCells (chain_meaning x) k f sub) c.inner_codecs.ensures (OnTrue_at c.if-reads_cells.true c.reads_cells.ensures.reads f sub) in
    IfErr-weaker c.with_parts.result (RefusesCopies k s sub parts) (RefusesCells m k f s sub parts) (λ e why. why m f reads) c.with_parts.ensures.refused

pub sharding::ShardingCodec::decode_parts-loop-number-init :
    goal.sharding::ShardingCodec::decode_parts-loop-number-init
sharding::ShardingCodec::decode_parts-loop-number-init t c =
    let k = kind_of c.args.cell_type.now in
    let f = filling c.args.cell_type.now in
    let s = chunk_shape c.args.subchunks.now in
    let parts = map (range_part c.args.encoded.now) c.args.ranges.now in
    let starts : StartsChunk k f s c.are_present-is_whole.result (region_data c.in-Some.chunk) = search rules in
    cells_started (chain_meaning (inner_chain_of c.args.self.now)) k f s (subchunk_shape c.args.subchunks.now) parts starts.filler (region_data c.in-Some.chunk) c.args.subchunks.now.cut
    (λ absent. starts.fill_is (c.are_present-is_whole.ensures ∙ sym (present_parts c.args.encoded.now c.args.ranges.now) ∙ absent)) starts.cells_are

pub sharding::ShardingCodec::decode_parts-loop-number-preserved-in_default-range :
    goal.sharding::ShardingCodec::decode_parts-loop-number-preserved-in_default-range
sharding::ShardingCodec::decode_parts-loop-number-preserved-in_default-range t c =
    let k = kind_of c.args.cell_type.now in
    let f = filling c.args.cell_type.now in
    let m : ChainMeaning = chain_meaning (inner_chain_of c.args.self.now) in
    let s = chunk_shape c.args.subchunks.now in
    let sub = subchunk_shape c.args.subchunks.now in
    let b = c.args.encoded.now in
    let ranges = c.args.ranges.now in
    let parts = map (range_part b) ranges in
    let number = c.loop-number.number in
    let count : length parts ≡ subchunk_count s sub = length-map ranges (range_part b) ∙ c.requires.count in
    let lt : number < length ranges = omega arith in
    let below : number < length parts = omega (arith, length-map ranges (range_part b)) in
    let at : get_or ranges number None ≡ None = search rules in
    cells_left m k f s sub parts number (region_data c.loop-number.chunk) below count (part_at b ranges number None lt at) c.loop-number.invariant

pub sharding::ShardingCodec::decode_parts-decode_part-requires :
    goal.sharding::ShardingCodec::decode_parts-decode_part-requires
sharding::ShardingCodec::decode_parts-decode_part-requires t c =
    let k = kind_of c.args.cell_type.now in
    let f = filling c.args.cell_type.now in
    let m : ChainMeaning = chain_meaning (inner_chain_of c.args.self.now) in
    let s = chunk_shape c.args.subchunks.now in
    let sub = subchunk_shape c.args.subchunks.now in
    let parts = map (range_part c.args.encoded.now) c.args.ranges.now in
    let number = c.loop-number.number in
    let below : number < subchunk_count s sub = omega (arith, c.requires.count) in
    let size = part_size s sub number (cell_size k) c.args.subchunks.now.cut below c.requires.size in
    let held = held_cells m k f s sub parts number (region_data c.loop-number.chunk) c.loop-number.invariant in
    (first_of (omega (arith, c.decreases), search rules), (size, (below, held)))

pub sharding::ShardingCodec::decode_parts-returns-in_err-chunk-clause-refused :
    goal.sharding::ShardingCodec::decode_parts-returns-in_err-chunk-clause-refused
sharding::ShardingCodec::decode_parts-returns-in_err-chunk-clause-refused t c =
    let k = kind_of c.args.cell_type.now in
    let f = filling c.args.cell_type.now in
    let m : ChainMeaning = chain_meaning (inner_chain_of c.args.self.now) in
    let s = chunk_shape c.args.subchunks.now in
    let sub = subchunk_shape c.args.subchunks.now in
    let b = c.args.encoded.now in
    let ranges = c.args.ranges.now in
    let parts = map (range_part b) ranges in
    let number = c.loop-number.number in
    let count : length parts ≡ subchunk_count s sub = length-map ranges (range_part b) ∙ c.requires.count in
    let lt : number < length ranges = omega arith in
    let below : number < length parts = omega (arith, length-map ranges (range_part b)) in
    let range = c.in-Some-range.range in
    let at : get_or ranges number None ≡ Some range = search rules in
    let e = c.in_err-chunk.field-0.0 in
    err_kept c.from_residual-in_err-chunk.result e (RefusesCells m k f s sub parts) c.from_residual-in_err-chunk.ensures.1
    (cells_refused m k f s sub parts number (slice_range b range.start range.end) e c.args.subchunks.now.cut count below (part_at b ranges number (Some range) lt at) c.in_err-chunk.ensures.refused)

pub sharding::ShardingCodec::decode_parts-loop-number-preserved :
    goal.sharding::ShardingCodec::decode_parts-loop-number-preserved
sharding::ShardingCodec::decode_parts-loop-number-preserved t c =
    let k = kind_of c.args.cell_type.now in
    let f = filling c.args.cell_type.now in
    let m : ChainMeaning = chain_meaning (inner_chain_of c.args.self.now) in
    let s = chunk_shape c.args.subchunks.now in
    let sub = subchunk_shape c.args.subchunks.now in
    let b = c.args.encoded.now in
    let ranges = c.args.ranges.now in
    let parts = map (range_part b) ranges in
    let number = c.loop-number.number in
    let lt : number < length ranges = omega arith in
    let below : number < length parts = omega (arith, length-map ranges (range_part b)) in
    let range = c.in-Some-range.range in
    let at : get_or ranges number None ≡ Some range = search rules in
    cells_more m k f s sub parts number (slice_range b range.start range.end) (region_data c.loop-number.chunk) (region_data c.in_ok-chunk.chunk) below (part_at b ranges number (Some range) lt at)
    c.loop-number.invariant c.in_ok-chunk.ensures.put

pub sharding::ShardingCodec::decode_parts-returns-clause-cells :
    goal.sharding::ShardingCodec::decode_parts-returns-clause-cells
sharding::ShardingCodec::decode_parts-returns-clause-cells t c =
    let k = kind_of c.args.cell_type.now in
    let f = filling c.args.cell_type.now in
    let m : ChainMeaning = chain_meaning (inner_chain_of c.args.self.now) in
    let s = chunk_shape c.args.subchunks.now in
    let sub = subchunk_shape c.args.subchunks.now in
    let b = c.args.encoded.now in
    let ranges = c.args.ranges.now in
    let parts = map (range_part b) ranges in
    let count : length parts ≡ subchunk_count s sub = length-map ranges (range_part b) ∙ c.requires.count in
    let done : c.loop-number.number ≡ length parts = omega (arith, length-map ranges (range_part b)) in
    let chunk = region_data c.loop-number.chunk in
    ap (cells k) c.in_ok-into_array_bytes.ensures ∙ cells_all m k f s sub parts chunk c.args.subchunks.now.cut count (subst (λ n. HasFirstCells m k f s sub parts n chunk) done c.loop-number.invariant)

pub sharding::ShardingCodec::decode_shard-decode_parts-requires :
    goal.sharding::ShardingCodec::decode_shard-decode_parts-requires
sharding::ShardingCodec::decode_shard-decode_parts-requires t c =
    let k = chunk_kind c.args.chunk.now in
    let f = chunk_fill c.args.chunk.now in
    let s = c.args.chunk.now.shape.now in
    let sub = sizes_of (subchunk_sizes_of c.args.self.now) in
    let b = c.args.encoded.now in
    let subchunks = c.in_ok-subchunks.subchunks in
    let ranges = c.deref.result.now in
    let m : ChainMeaning = chain_meaning (inner_chain_of c.args.self.now) in
    let at = is_at_start (location_of c.args.self.now) in
    let at_is : c.is_at_start-at_start.result ≡ at = c.is_at_start-at_start.ensures ∙ ap is_at_start c.index_location.ensures in
    let shape_is = c.in_ok-subchunks.ensures.shape in
    let sub_is = c.in_ok-subchunks.ensures.sub in
    let read : shard_parts c.is_at_start-at_start.result c.in-Some.count b ≡ Some (map (range_part b) c.in-Some-2.ranges.items) = search rules in
    let r : IsRead m at k f s sub b (chunk_shape subchunks) (subchunk_shape subchunks) (map (range_part b) ranges) =
    is_read m at k f s sub b (chunk_shape subchunks) (subchunk_shape subchunks) (map (range_part b) ranges) c.in-Some.count shape_is sub_is subchunks.cut (subst (λ x. m.fits k x ≡ true) sub_is c.in_ok-subchunks.ensures.fits) c.in-Some.ensures
    (subst (λ x. shard_parts x c.in-Some.count b ≡ Some (map (range_part b) ranges)) at_is (read ∙ ap (λ l. Some (map (range_part b) l)) (sym c.deref.ensures.value))) in
    let size = subst (λ x. position_count x * cell_size k < 2 ^ 64) (sym shape_is) c.requires.size in
    let within : All (IsRangeWithin (length b)) c.in-Some-2.ranges.items = search rules in
    (first_of (omega (arith, c.decreases), search rules), (size, (subst (λ l. All (IsRangeWithin (length b)) l) (sym c.deref.ensures.value) within, sym (length-map ranges (range_part b)) ∙ r.long)))

pub sharding::ShardingCodec::decode_shard-returns :
    goal.sharding::ShardingCodec::decode_shard-returns
sharding::ShardingCodec::decode_shard-returns t c =
    let k = chunk_kind c.args.chunk.now in
    let f = chunk_fill c.args.chunk.now in
    let s = c.args.chunk.now.shape.now in
    let sub = sizes_of (subchunk_sizes_of c.args.self.now) in
    let b = c.args.encoded.now in
    let subchunks = c.in_ok-subchunks.subchunks in
    let ranges = c.deref.result.now in
    let m : ChainMeaning = chain_meaning (inner_chain_of c.args.self.now) in
    let at = is_at_start (location_of c.args.self.now) in
    let at_is : c.is_at_start-at_start.result ≡ at = c.is_at_start-at_start.ensures ∙ ap is_at_start c.index_location.ensures in
    let shape_is = c.in_ok-subchunks.ensures.shape in
    let sub_is = c.in_ok-subchunks.ensures.sub in
    let read : shard_parts c.is_at_start-at_start.result c.in-Some.count b ≡ Some (map (range_part b) c.in-Some-2.ranges.items) = search rules in
    let r : IsRead m at k f s sub b (chunk_shape subchunks) (subchunk_shape subchunks) (map (range_part b) ranges) =
    is_read m at k f s sub b (chunk_shape subchunks) (subchunk_shape subchunks) (map (range_part b) ranges) c.in-Some.count shape_is sub_is subchunks.cut (subst (λ x. m.fits k x ≡ true) sub_is c.in_ok-subchunks.ensures.fits) c.in-Some.ensures
    (subst (λ x. shard_parts x c.in-Some.count b ≡ Some (map (range_part b) ranges)) at_is (read ∙ ap (λ l. Some (map (range_part b) l)) (sym c.deref.ensures.value))) in
    record {
      cells = subst (λ (x : Option (List Cell)). IfOk c.decode_parts.result (λ made. cells k (data_of made) ≡ x)) (sym r.cells_are) c.decode_parts.ensures.cells;
      some = c.decode_parts.ensures.some;
      refused = IfErr-weaker c.decode_parts.result _ _ r.refusal c.decode_parts.ensures.refused;
    }

-- ---- behind codecs that make an array of an array

pub sharding::ShardingCodec::decode_behind-decode_shard-requires :
    goal.sharding::ShardingCodec::decode_behind-decode_shard-requires
sharding::ShardingCodec::decode_behind-decode_shard-requires t c =
    let k = chunk_kind c.args.chunk.now in
    let f = chunk_fill c.args.chunk.now in
    let s = c.args.chunk.now.shape.now in
    let b = c.args.encoded.now in
    let a = arrays_meaning c.args.codecs.now in
    let m : ChainMeaning = sharding_meaning c.args.self.now in
    let inner = c.in-Some.inner.items in
    let shape : encoded_shape a s ≡ Some inner = sym c.in_ok-inner.ensures ∙ ap (option_map (λ v. v.items)) c.in-Some.is in
    let size : position_count inner * cell_size k < 2 ^ 64 = subst (λ n. n * cell_size k < 2 ^ 64) (sym (count_behind a m (arrays-lawful c.args.codecs.now) k f s inner b shape)) c.requires.size in
    (first_of (omega (arith, c.decreases), search rules), subst (λ x. position_count x * cell_size k < 2 ^ 64) (sym c.deref.ensures.value) size)

pub sharding::ShardingCodec::decode_behind-returns-in_err-array-clause-refused :
    goal.sharding::ShardingCodec::decode_behind-returns-in_err-array-clause-refused
sharding::ShardingCodec::decode_behind-returns-in_err-array-clause-refused t c =
    let k = chunk_kind c.args.chunk.now in
    let f = chunk_fill c.args.chunk.now in
    let s = c.args.chunk.now.shape.now in
    let b = c.args.encoded.now in
    let a = arrays_meaning c.args.codecs.now in
    let m : ChainMeaning = sharding_meaning c.args.self.now in
    let inner = c.in-Some.inner.items in
    let shape : encoded_shape a s ≡ Some inner = sym c.in_ok-inner.ensures ∙ ap (option_map (λ v. v.items)) c.in-Some.is in
    let e = c.in_err-array.field-0.0 in
    err_kept c.from_residual-in_err-array.result e (RefusesChunkDecoding (behind c.args.codecs.now m) k f s b) c.from_residual-in_err-array.ensures.1
    (refused_behind a m (arrays-lawful c.args.codecs.now) k f s inner b shape e
    (subst (λ x. RefusesChunkDecoding m k f x b e) c.deref.ensures.value c.in_err-array.ensures.refused))

pub sharding::ShardingCodec::decode_behind-decode_array-requires-clause-cells :
    goal.sharding::ShardingCodec::decode_behind-decode_array-requires-clause-cells
sharding::ShardingCodec::decode_behind-decode_array-requires-clause-cells t c =
    let k = chunk_kind c.args.chunk.now in
    let f = chunk_fill c.args.chunk.now in
    let s = c.args.chunk.now.shape.now in
    let b = c.args.encoded.now in
    let a = arrays_meaning c.args.codecs.now in
    let m : ChainMeaning = sharding_meaning c.args.self.now in
    let inner = c.in-Some.inner.items in
    let shape : encoded_shape a s ≡ Some inner = sym c.in_ok-inner.ensures ∙ ap (option_map (λ v. v.items)) c.in-Some.is in
    let x = c.args.self.now in
    let law = sharded-lawful (is_at_start (location_of x)) (sizes_of (subchunk_sizes_of x)) (chain_meaning (inner_chain_of x)) (chain-lawful (inner_chain_of x)) in
    let d = data_of c.in_ok-array.array in
    let is : cells k d ≡ m.decoded k f inner b = subst (λ x. cells k d ≡ m.decoded k f x b) c.deref.ensures.value c.in_ok-array.ensures.cells in
    subst (λ x. HasCells k x (position_count s)) (sym c.in_ok-array-2.ensures)
    (held_behind a m (arrays-lawful c.args.codecs.now) k f s inner b shape law d is c.in_ok-array.ensures.some)

-- ---- a chunk whose bytes are its cells

pub chain::CodecChain::decode_chunk-returns-then-reads_cells-clause-cells :
    goal.chain::CodecChain::decode_chunk-returns-then-reads_cells-clause-cells
chain::CodecChain::decode_chunk-returns-then-reads_cells-clause-cells t c =
    let chunk = c.args.chunk.now in
    let reads = OnTrue_at c.if-reads_cells.true c.reads_cells.ensures.reads (chunk_fill chunk) (shape_of chunk) in
    lent_decoded (chain_meaning c.args.self.now) (chunk_kind chunk) (chunk_fill chunk) (shape_of chunk) c.args.encoded.now reads c.lent_cells.result c.lent_cells.ensures.lent c.lent_cells.ensures.has_cells

pub chain::CodecChain::decode_chunk-returns-then-reads_cells-clause-some :
    goal.chain::CodecChain::decode_chunk-returns-then-reads_cells-clause-some
chain::CodecChain::decode_chunk-returns-then-reads_cells-clause-some t c =
    let chunk = c.args.chunk.now in
    let reads = OnTrue_at c.if-reads_cells.true c.reads_cells.ensures.reads (chunk_fill chunk) (shape_of chunk) in
    lent_some (chain_meaning c.args.self.now) (chunk_kind chunk) (chunk_fill chunk) (shape_of chunk) c.args.encoded.now reads c.lent_cells.result c.lent_cells.ensures.lent c.lent_cells.ensures.has_cells

pub chain::CodecChain::decode_chunk-returns-then-reads_cells-clause-refused :
    goal.chain::CodecChain::decode_chunk-returns-then-reads_cells-clause-refused
chain::CodecChain::decode_chunk-returns-then-reads_cells-clause-refused t c =
    let chunk = c.args.chunk.now in
    let reads = OnTrue_at c.if-reads_cells.true c.reads_cells.ensures.reads (chunk_fill chunk) (shape_of chunk) in
    IfErr-weaker c.lent_cells.result _ _
    (lent_refused (chain_meaning c.args.self.now) (chunk_kind chunk) (chunk_fill chunk) (shape_of chunk) c.args.encoded.now reads) c.lent_cells.ensures.refused

pub chain::CodecChain::decode_chunk-returns-in-Sharding-clause-refused :
    goal.chain::CodecChain::decode_chunk-returns-in-Sharding-clause-refused
chain::CodecChain::decode_chunk-returns-in-Sharding-clause-refused t c =
    let k = chunk_kind c.args.chunk.now in
    let f = chunk_fill c.args.chunk.now in
    let s = c.args.chunk.now.shape.now in
    let b = c.args.encoded.now in
    let codec = c.in-Sharding.codec.value in
    IfErr-weaker c.decode_behind.result _ _
    (λ e why.
    subst (λ x. RefusesChunkDecoding (behind c.args.self.now.array_to_array.items (codec_meaning x)) k f s b e) (sym c.in-Sharding.is)
    (subst (λ x. RefusesChunkDecoding (behind x (sharding_meaning codec)) k f s b e) c.deref-in-Sharding.ensures.value
    (subst (λ x. RefusesChunkDecoding (behind c.deref-in-Sharding.result.now (sharding_meaning x)) k f s b e) c.deref.ensures why)))
    c.decode_behind.ensures.refused

pub sharding::ShardingCodec::decode_shard-returns-in_err-subchunks-clause-refused : goal.sharding::ShardingCodec::decode_shard-returns-in_err-subchunks-clause-refused
sharding::ShardingCodec::decode_shard-returns-in_err-subchunks-clause-refused t c =
    let x = c.args.self.now in
    let e = c.in_err-subchunks.field-0.0 in
    err_kept c.from_residual.result e (RefusesToDecode (sharding_meaning x) c.args.chunk.now c.args.encoded.now) c.from_residual.ensures.1
    (cut_decoding (chain_meaning (inner_chain_of x)) (is_at_start (location_of x)) (chunk_kind c.args.chunk.now) (chunk_fill c.args.chunk.now) c.args.chunk.now.shape.now (sizes_of (subchunk_sizes_of x)) c.args.encoded.now e c.in_err-subchunks.ensures.refused)
