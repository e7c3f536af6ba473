use Rattle.std.proofs.Common.{rules, arith, ◌≡◌, ◌∙◌, ◌<◌, map, length, get_or, Some, None, subst}
use Rattle.std.specs.Prelude.{slice_range}
use Rattle.std.proofs.lemmas.List.{length-map}
use Rattle.zarrs_data_type.specs.ArrayData.{fixed}
use Rattle.zarrs_data_type.specs.Kind.{kind, cell_size}
use Rattle.zarrs_codec_optional.proofs.Kept.{err_kept}
use Rattle.zarrs_codec_shard.specs.ShardIndex.{range_part}
use Rattle.zarrs_codec_shard.specs.SubchunkData.{chunk_shape, subchunk_shape}
use Rattle.zarrs_codec_shard.specs.Subchunks.{subchunk_count}
use Rattle.zarrs_codec_shard.proofs.Sizes.{part_size}
use Rattle.zarrs_codec.specs.Shardings.{HasFirstCells, RefusesCopies}
use Rattle.zarrs_codec.proofs.CopiedParts.{copied_left, copied_more, copied_none, copy_refused}
use Rattle.zarrs_codec.proofs.PartCells.{part_at}
use Rattle.zarrs_codec.proofs.decode.copy_parts.Goals as goal

pub loop-number-init : goal.loop-number-init
loop-number-init c =
    let s = chunk_shape c.args.subchunks.now in
    let sub = subchunk_shape c.args.subchunks.now in
    copied_none (kind c.args.data_type.now) s sub (map (range_part c.args.encoded.now) c.args.ranges.now) (fixed c.args.chunk.now) c.requires.held

pub loop-number-preserved-in_default : goal.loop-number-preserved-in_default
loop-number-preserved-in_default c =
    let k = kind c.args.data_type.now in
    let s = chunk_shape c.args.subchunks.now in
    let sub = subchunk_shape c.args.subchunks.now in
    let b = c.args.encoded.now in
    let ranges = c.args.ranges.now in
    let parts = map (range_part b) ranges in
    let number = c.loop-number.number in
    let count : length parts ≡ subchunk_count s sub = length-map ranges (range_part b) ∙ c.requires.count in
    let lt : number < length ranges = omega arith in
    let below : number < length parts = omega (arith, length-map ranges (range_part b)) in
    let at : get_or ranges number None ≡ None = search rules in
    copied_left k s sub parts number (fixed c.args.chunk.now) (fixed c.loop-number.chunk) below count (part_at b ranges number None lt at) c.loop-number.invariant

pub copy_part-requires-clause-size : goal.copy_part-requires-clause-size
copy_part-requires-clause-size c =
    let s = chunk_shape c.args.subchunks.now in
    let sub = subchunk_shape c.args.subchunks.now in
    let number = c.loop-number.number in
    let below : number < subchunk_count s sub = omega (arith, c.requires.count) in
    part_size s sub number (cell_size (kind c.args.data_type.now)) c.args.subchunks.now.cut below c.requires.size

pub copy_part-requires-clause-held : goal.copy_part-requires-clause-held
copy_part-requires-clause-held c = c.loop-number.invariant.has

pub returns-in_err-copy_part-clause-refused : goal.returns-in_err-copy_part-clause-refused
returns-in_err-copy_part-clause-refused c =
    let k = kind c.args.data_type.now in
    let s = chunk_shape c.args.subchunks.now in
    let sub = subchunk_shape c.args.subchunks.now in
    let b = c.args.encoded.now in
    let ranges = c.args.ranges.now in
    let parts = map (range_part b) ranges in
    let number = c.loop-number.number in
    let count : length parts ≡ subchunk_count s sub = length-map ranges (range_part b) ∙ c.requires.count in
    let lt : number < length ranges = omega arith in
    let below : number < length parts = omega (arith, length-map ranges (range_part b)) in
    let range = c.in-Some.range in
    let at : get_or ranges number None ≡ Some range = search rules in
    let e = c.in_err-copy_part.field-0.0 in
    err_kept c.from_residual.result e (RefusesCopies k s sub parts) c.from_residual.ensures.1
    (copy_refused k s sub parts number (slice_range b range.start range.end) e c.args.subchunks.now.cut count below (part_at b ranges number (Some range) lt at) c.in_err-copy_part.ensures.refused)

pub loop-number-preserved : goal.loop-number-preserved
loop-number-preserved c =
    let k = kind c.args.data_type.now in
    let s = chunk_shape c.args.subchunks.now in
    let sub = subchunk_shape c.args.subchunks.now in
    let b = c.args.encoded.now in
    let ranges = c.args.ranges.now in
    let parts = map (range_part b) ranges in
    let number = c.loop-number.number in
    let count : length parts ≡ subchunk_count s sub = length-map ranges (range_part b) ∙ c.requires.count in
    let lt : number < length ranges = omega arith in
    let below : number < length parts = omega (arith, length-map ranges (range_part b)) in
    let range = c.in-Some.range in
    let at : get_or ranges number None ≡ Some range = search rules in
    copied_more k s sub parts number (slice_range b range.start range.end) (fixed c.args.chunk.now) (fixed c.loop-number.chunk) (fixed c.copy_part.new.chunk) below count
    (part_at b ranges number (Some range) lt at) c.in_ok-copy_part.ensures.has_cells c.in_ok-copy_part.ensures.put c.loop-number.invariant

pub returns-clause-copied : goal.returns-clause-copied
returns-clause-copied c =
    let k = kind c.args.data_type.now in
    let s = chunk_shape c.args.subchunks.now in
    let sub = subchunk_shape c.args.subchunks.now in
    let b = c.args.encoded.now in
    let ranges = c.args.ranges.now in
    let parts = map (range_part b) ranges in
    let done : c.loop-number.number ≡ length parts = omega (arith, length-map ranges (range_part b)) in
    λ m f reads first. subst (λ n. HasFirstCells m k f s sub parts n (fixed c.loop-number.chunk)) done (c.loop-number.invariant.copied m f reads first)
