use Rattle.std.proofs.Common.{◌≡◌, ◌≤◌, ◌<◌, ◌+◌, ◌-◌, ◌*◌, ◌∷◌, ◌∙◌, length, take, drop, slice_index, ap, sym, subst, arith}
use Rattle.std.specs.List.{repeat}
use Rattle.std.proofs.Math.Nat.{mul-le-mul_right}
use borrow.Rule.Slice.PartMut.{put_mid}
use Rattle.zarrs_data_type_bytes.proofs.Pieces.{length-repeat}
use Rattle.zarrs_subset.specs.Boxes.{place, position_count}
use Rattle.zarrs_data_type_region.specs.Targets.{IsFilledBox}
use Rattle.zarrs_data_type_region.proofs.TargetLevels.{end_is}
use Rattle.zarrs_data_type_region.proofs.Rows.{block_room, blocks_all, blocks_none, copied_run, length_put, plane_more, plane_room, run_kept, run_put, start_in}
use Rattle.zarrs_data_type_region.proofs.target.fill_plane.Goals as goal

pub slice_bounds-positions-count : goal.slice_bounds-positions-count
slice_bounds-positions-count c =
    let shape = c.args.shape.now in
    let start = c.args.start.now in
    let extents = c.args.extents.now in
    let size = length c.args.piece.now in
    let parts = block_room shape start extents c.requires.dimensions c.requires.fits c.requires.some in
    let first = plane_room size 0 shape start extents c.requires.fits c.requires.whole parts.first in
    parts.extents_some

pub slice_bounds-positions-start : goal.slice_bounds-positions-start
slice_bounds-positions-start c =
    let shape = c.args.shape.now in
    let start = c.args.start.now in
    let extents = c.args.extents.now in
    let size = length c.args.piece.now in
    let parts = block_room shape start extents c.requires.dimensions c.requires.fits c.requires.some in
    let first = plane_room size 0 shape start extents c.requires.fits c.requires.whole parts.first in
    parts.extents_some

pub positions-count-requires : goal.positions-count-requires
positions-count-requires c =
    let shape = c.args.shape.now in
    let start = c.args.start.now in
    let extents = c.args.extents.now in
    let size = length c.args.piece.now in
    let parts = block_room shape start extents c.requires.dimensions c.requires.fits c.requires.some in
    let first = plane_room size 0 shape start extents c.requires.fits c.requires.whole parts.first in
    rw (end_is 1 extents) (omega (arith, first.short, parts.inner, c.requires.counted))

pub overflow_mul-len : goal.overflow_mul-len
overflow_mul-len c =
    let shape = c.args.shape.now in
    let start = c.args.start.now in
    let extents = c.args.extents.now in
    let size = length c.args.piece.now in
    let parts = block_room shape start extents c.requires.dimensions c.requires.fits c.requires.some in
    let first = plane_room size 0 shape start extents c.requires.fits c.requires.whole parts.first in
    let len : c.positions-count.result * size ≡ position_count (drop 1 extents) * size = ap (λ n. n * size) (c.positions-count.ensures ∙ ap position_count (end_is 1 extents)) in
    omega (arith, first.ends, c.requires.target_len)

pub positions-requires : goal.positions-requires
positions-requires c =
    let shape = c.args.shape.now in
    let start = c.args.start.now in
    let extents = c.args.extents.now in
    let size = length c.args.piece.now in
    let parts = block_room shape start extents c.requires.dimensions c.requires.fits c.requires.some in
    let first = plane_room size 0 shape start extents c.requires.fits c.requires.whole parts.first in
    rw (end_is 1 shape) (omega (arith, parts.inner, c.requires.counted))

pub overflow_mul-stride : goal.overflow_mul-stride
overflow_mul-stride c =
    let shape = c.args.shape.now in
    let start = c.args.start.now in
    let extents = c.args.extents.now in
    let size = length c.args.piece.now in
    let parts = block_room shape start extents c.requires.dimensions c.requires.fits c.requires.some in
    let first = plane_room size 0 shape start extents c.requires.fits c.requires.whole parts.first in
    let stride : c.positions.result * size ≡ position_count (drop 1 shape) * size = ap (λ n. n * size) (c.positions.ensures ∙ ap position_count (end_is 1 shape)) in
    omega (arith, mul-le-mul_right size parts.inner, c.requires.target_len)

pub number_of-requires-clause-inside : goal.number_of-requires-clause-inside
number_of-requires-clause-inside c =
    let shape = c.args.shape.now in
    let start = c.args.start.now in
    let extents = c.args.extents.now in
    let size = length c.args.piece.now in
    let parts = block_room shape start extents c.requires.dimensions c.requires.fits c.requires.some in
    let first = plane_room size 0 shape start extents c.requires.fits c.requires.whole parts.first in
    start_in start extents shape c.requires.some c.requires.fits

pub overflow_mul-from : goal.overflow_mul-from
overflow_mul-from c =
    let shape = c.args.shape.now in
    let start = c.args.start.now in
    let extents = c.args.extents.now in
    let size = length c.args.piece.now in
    let parts = block_room shape start extents c.requires.dimensions c.requires.fits c.requires.some in
    let first = plane_room size 0 shape start extents c.requires.fits c.requires.whole parts.first in
    let from : c.number_of.result * size ≡ place shape start * size = ap (λ n. n * size) c.number_of.ensures in
    omega (arith, first.ends, c.requires.target_len)

pub overflow_add-from : goal.overflow_add-from
overflow_add-from c =
    let shape = c.args.shape.now in
    let start = c.args.start.now in
    let extents = c.args.extents.now in
    let size = length c.args.piece.now in
    let parts = block_room shape start extents c.requires.dimensions c.requires.fits c.requires.some in
    let first = plane_room size 0 shape start extents c.requires.fits c.requires.whole parts.first in
    let len : c.positions-count.result * size ≡ position_count (drop 1 extents) * size = ap (λ n. n * size) (c.positions-count.ensures ∙ ap position_count (end_is 1 extents)) in
    let from : c.number_of.result * size ≡ place shape start * size = ap (λ n. n * size) c.number_of.ensures in
    omega (arith, first.ends, c.requires.target_len)

pub slice_bounds-fill_run-end : goal.slice_bounds-fill_run-end
slice_bounds-fill_run-end c =
    let shape = c.args.shape.now in
    let start = c.args.start.now in
    let extents = c.args.extents.now in
    let size = length c.args.piece.now in
    let parts = block_room shape start extents c.requires.dimensions c.requires.fits c.requires.some in
    let first = plane_room size 0 shape start extents c.requires.fits c.requires.whole parts.first in
    let len : c.positions-count.result * size ≡ position_count (drop 1 extents) * size = ap (λ n. n * size) (c.positions-count.ensures ∙ ap position_count (end_is 1 extents)) in
    let from : c.number_of.result * size ≡ place shape start * size = ap (λ n. n * size) c.number_of.ensures in
    let ends : c.number_of.result * size + c.positions-count.result * size ≤ length c.args.target.now = omega (arith, first.ends, c.requires.target_len) in
    ends

pub loop-row-init : goal.loop-row-init
loop-row-init c =
    let shape = c.args.shape.now in
    let start = c.args.start.now in
    let extents = c.args.extents.now in
    let size = length c.args.piece.now in
    let parts = block_room shape start extents c.requires.dimensions c.requires.fits c.requires.some in
    let first = plane_room size 0 shape start extents c.requires.fits c.requires.whole parts.first in
    let len : c.positions-count.result * size ≡ position_count (drop 1 extents) * size = ap (λ n. n * size) (c.positions-count.ensures ∙ ap position_count (end_is 1 extents)) in
    let from : c.number_of.result * size ≡ place shape start * size = ap (λ n. n * size) c.number_of.ensures in
    let piece = c.args.piece.now in
    let old = c.args.target.now in
    let new = c.fill_run.new.target in
    let w = c.number_of.result * size in
    let k = c.positions-count.result * size in
    let count : w + k - w ≡ k = omega arith in
    let ends : w + k ≤ length old = omega (arith, first.ends, c.requires.target_len) in
    let new_len : length new ≡ k = ap length c.fill_run.ensures ∙ length-repeat piece c.positions-count.result in
    let same : place shape start ≡ place shape start + 0 * position_count (drop 1 shape) = omega arith in
    record {
      len = length_put w (w + k - w) old new (omega arith) (new_len ∙ sym count);
      first = ap (λ n. take k (drop w (put_mid w n old new))) count ∙ run_put w k old new ends new_len ∙ c.fill_run.ensures;
      filled = plane_more 0 w (w + k - w) shape start extents piece old old new c.requires.fits parts.first c.requires.whole (count ∙ len) (from ∙ ap (λ n. n * size) same)
          c.requires.target_len (c.fill_run.ensures ∙ ap (λ n. repeat n piece) (c.positions-count.ensures ∙ ap position_count (end_is 1 extents)))
          (blocks_none size shape start extents piece old c.requires.dimensions c.requires.fits);
    }

pub overflow_mul-row : goal.overflow_mul-row
overflow_mul-row c =
    let shape = c.args.shape.now in
    let start = c.args.start.now in
    let extents = c.args.extents.now in
    let size = length c.args.piece.now in
    let parts = block_room shape start extents c.requires.dimensions c.requires.fits c.requires.some in
    let first = plane_room size 0 shape start extents c.requires.fits c.requires.whole parts.first in
    let stride : c.positions.result * size ≡ position_count (drop 1 shape) * size = ap (λ n. n * size) (c.positions.ensures ∙ ap position_count (end_is 1 shape)) in
    let below : c.loop-row.row < slice_index extents 0 = omega arith in
    let room = plane_room size c.loop-row.row shape start extents c.requires.fits c.requires.whole below in
    let at : c.loop-row.row * (c.positions.result * size) ≡ c.loop-row.row * (position_count (drop 1 shape) * size) = ap (λ n. c.loop-row.row * n) stride in
    omega (arith, room.ends, c.requires.target_len)

pub overflow_add-from-in-loop-row : goal.overflow_add-from-in-loop-row
overflow_add-from-in-loop-row c =
    let shape = c.args.shape.now in
    let start = c.args.start.now in
    let extents = c.args.extents.now in
    let size = length c.args.piece.now in
    let parts = block_room shape start extents c.requires.dimensions c.requires.fits c.requires.some in
    let first = plane_room size 0 shape start extents c.requires.fits c.requires.whole parts.first in
    let stride : c.positions.result * size ≡ position_count (drop 1 shape) * size = ap (λ n. n * size) (c.positions.ensures ∙ ap position_count (end_is 1 shape)) in
    let from : c.number_of.result * size ≡ place shape start * size = ap (λ n. n * size) c.number_of.ensures in
    let below : c.loop-row.row < slice_index extents 0 = omega arith in
    let room = plane_room size c.loop-row.row shape start extents c.requires.fits c.requires.whole below in
    let at : c.loop-row.row * (c.positions.result * size) ≡ c.loop-row.row * (position_count (drop 1 shape) * size) = ap (λ n. c.loop-row.row * n) stride in
    omega (arith, room.ends, c.requires.target_len)

pub copy_run-requires-clause-behind : goal.copy_run-requires-clause-behind
copy_run-requires-clause-behind c =
    let shape = c.args.shape.now in
    let start = c.args.start.now in
    let extents = c.args.extents.now in
    let size = length c.args.piece.now in
    let parts = block_room shape start extents c.requires.dimensions c.requires.fits c.requires.some in
    let first = plane_room size 0 shape start extents c.requires.fits c.requires.whole parts.first in
    let len : c.positions-count.result * size ≡ position_count (drop 1 extents) * size = ap (λ n. n * size) (c.positions-count.ensures ∙ ap position_count (end_is 1 extents)) in
    let stride : c.positions.result * size ≡ position_count (drop 1 shape) * size = ap (λ n. n * size) (c.positions.ensures ∙ ap position_count (end_is 1 shape)) in
    let from : c.number_of.result * size ≡ place shape start * size = ap (λ n. n * size) c.number_of.ensures in
    let below : c.loop-row.row < slice_index extents 0 = omega arith in
    let room = plane_room size c.loop-row.row shape start extents c.requires.fits c.requires.whole below in
    let at : c.loop-row.row * (c.positions.result * size) ≡ c.loop-row.row * (position_count (drop 1 shape) * size) = ap (λ n. c.loop-row.row * n) stride in
    omega (arith, room.behind, mul-le-mul_right (position_count (drop 1 shape) * size) c.loop-row.auto.row)

pub copy_run-requires-clause-room : goal.copy_run-requires-clause-room
copy_run-requires-clause-room c =
    let shape = c.args.shape.now in
    let start = c.args.start.now in
    let extents = c.args.extents.now in
    let size = length c.args.piece.now in
    let parts = block_room shape start extents c.requires.dimensions c.requires.fits c.requires.some in
    let first = plane_room size 0 shape start extents c.requires.fits c.requires.whole parts.first in
    let len : c.positions-count.result * size ≡ position_count (drop 1 extents) * size = ap (λ n. n * size) (c.positions-count.ensures ∙ ap position_count (end_is 1 extents)) in
    let stride : c.positions.result * size ≡ position_count (drop 1 shape) * size = ap (λ n. n * size) (c.positions.ensures ∙ ap position_count (end_is 1 shape)) in
    let from : c.number_of.result * size ≡ place shape start * size = ap (λ n. n * size) c.number_of.ensures in
    let below : c.loop-row.row < slice_index extents 0 = omega arith in
    let room = plane_room size c.loop-row.row shape start extents c.requires.fits c.requires.whole below in
    let at : c.loop-row.row * (c.positions.result * size) ≡ c.loop-row.row * (position_count (drop 1 shape) * size) = ap (λ n. c.loop-row.row * n) stride in
    omega (arith, room.ends, c.requires.target_len, c.loop-row.invariant.len)

pub loop-row-preserved : goal.loop-row-preserved
loop-row-preserved c =
    let shape = c.args.shape.now in
    let start = c.args.start.now in
    let extents = c.args.extents.now in
    let size = length c.args.piece.now in
    let parts = block_room shape start extents c.requires.dimensions c.requires.fits c.requires.some in
    let first = plane_room size 0 shape start extents c.requires.fits c.requires.whole parts.first in
    let len : c.positions-count.result * size ≡ position_count (drop 1 extents) * size = ap (λ n. n * size) (c.positions-count.ensures ∙ ap position_count (end_is 1 extents)) in
    let stride : c.positions.result * size ≡ position_count (drop 1 shape) * size = ap (λ n. n * size) (c.positions.ensures ∙ ap position_count (end_is 1 shape)) in
    let from : c.number_of.result * size ≡ place shape start * size = ap (λ n. n * size) c.number_of.ensures in
    let below : c.loop-row.row < slice_index extents 0 = omega arith in
    let room = plane_room size c.loop-row.row shape start extents c.requires.fits c.requires.whole below in
    let at : c.loop-row.row * (c.positions.result * size) ≡ c.loop-row.row * (position_count (drop 1 shape) * size) = ap (λ n. c.loop-row.row * n) stride in
    let piece = c.args.piece.now in
    let mid = c.loop-row.target in
    let w = c.number_of.result * size in
    let k = c.positions-count.result * size in
    let to = w + c.loop-row.row * (c.positions.result * size) in
    let behind : w + k ≤ to = omega (arith, room.behind, mul-le-mul_right (position_count (drop 1 shape) * size) c.loop-row.auto.row) in
    let ends : to + k ≤ length mid = omega (arith, room.ends, c.requires.target_len, c.loop-row.invariant.len) in
    let copy = take k (drop w mid) in
    let is = copied_run w k to mid c.copy_run.new.target behind ends c.copy_run.ensures in
    let copy_is = c.loop-row.invariant.first in
    let copy_len : length copy ≡ k = ap length copy_is ∙ length-repeat piece c.positions-count.result in
    let to_is : to ≡ place shape start * size + c.loop-row.row * (position_count (drop 1 shape) * size) = omega arith in
    record {
      len = ap length is ∙ length_put to k mid copy ends copy_len ∙ c.loop-row.invariant.len;
      first = ap (λ l. take k (drop w l)) is ∙ run_kept w k to mid copy behind ends ∙ copy_is;
      filled = subst (λ l. IsFilledBox size shape start ((c.loop-row.row + 1) ∷ drop 1 extents) piece c.args.target.now l) (sym is)
          (plane_more c.loop-row.row to k shape start extents piece c.args.target.now mid copy c.requires.fits below c.requires.whole len (to_is ∙ room.at)
          (c.loop-row.invariant.len ∙ c.requires.target_len) (copy_is ∙ ap (λ n. repeat n piece) (c.positions-count.ensures ∙ ap position_count (end_is 1 extents)))
          c.loop-row.invariant.filled);
    }

pub returns : goal.returns
returns c =
    let shape = c.args.shape.now in
    let start = c.args.start.now in
    let extents = c.args.extents.now in
    let size = length c.args.piece.now in
    let parts = block_room shape start extents c.requires.dimensions c.requires.fits c.requires.some in
    let first = plane_room size 0 shape start extents c.requires.fits c.requires.whole parts.first in
    let all : c.loop-row.row ≡ slice_index extents 0 = omega (arith, parts.first) in
    blocks_all size c.loop-row.row shape start extents c.args.piece.now c.args.target.now c.loop-row.target parts.extents_some all c.loop-row.invariant.filled
