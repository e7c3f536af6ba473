use Rattle.std.proofs.Common.{◌≡◌, ◌≤◌, ◌+◌, ◌-◌, ◌*◌, ◌∙◌, length, ap, arith}
use Rattle.std.specs.List.{repeat}
use Rattle.zarrs_subset.specs.Boxes.{place, position_count}
use Rattle.zarrs_data_type_region.proofs.Rows.{row_ends, row_filled, row_room, start_in}
use Rattle.zarrs_data_type_region.proofs.target.fill_row.Goals as goal

pub positions-count-requires : goal.positions-count-requires
positions-count-requires c = omega (arith, row_ends c.args.start.now c.args.extents.now c.args.shape.now c.requires.fits c.requires.whole, c.requires.counted)

pub number_of-requires-clause-inside : goal.number_of-requires-clause-inside
number_of-requires-clause-inside c = start_in c.args.start.now c.args.extents.now c.args.shape.now c.requires.some c.requires.fits

pub overflow_mul-from : goal.overflow_mul-from
overflow_mul-from c =
    let size = length c.args.piece.now in
    let from : c.number_of.result * size ≡ place c.args.shape.now c.args.start.now * size = ap (λ n. n * size) c.number_of.ensures in
    let len : c.positions-count.result * size ≡ position_count c.args.extents.now * size = ap (λ n. n * size) c.positions-count.ensures in
    let room = row_room size c.args.shape.now c.args.start.now c.args.extents.now c.requires.fits c.requires.whole in
    omega (arith, room, c.requires.target_len)

pub overflow_mul-count : goal.overflow_mul-count
overflow_mul-count c =
    let size = length c.args.piece.now in
    let from : c.number_of.result * size ≡ place c.args.shape.now c.args.start.now * size = ap (λ n. n * size) c.number_of.ensures in
    let len : c.positions-count.result * size ≡ position_count c.args.extents.now * size = ap (λ n. n * size) c.positions-count.ensures in
    let room = row_room size c.args.shape.now c.args.start.now c.args.extents.now c.requires.fits c.requires.whole in
    omega (arith, room, c.requires.target_len)

pub overflow_add-from : goal.overflow_add-from
overflow_add-from c =
    let size = length c.args.piece.now in
    let from : c.number_of.result * size ≡ place c.args.shape.now c.args.start.now * size = ap (λ n. n * size) c.number_of.ensures in
    let len : c.positions-count.result * size ≡ position_count c.args.extents.now * size = ap (λ n. n * size) c.positions-count.ensures in
    let room = row_room size c.args.shape.now c.args.start.now c.args.extents.now c.requires.fits c.requires.whole in
    omega (arith, room, c.requires.target_len)

pub slice_bounds-fill_run-end : goal.slice_bounds-fill_run-end
slice_bounds-fill_run-end c =
    let size = length c.args.piece.now in
    let from : c.number_of.result * size ≡ place c.args.shape.now c.args.start.now * size = ap (λ n. n * size) c.number_of.ensures in
    let len : c.positions-count.result * size ≡ position_count c.args.extents.now * size = ap (λ n. n * size) c.positions-count.ensures in
    let room = row_room size c.args.shape.now c.args.start.now c.args.extents.now c.requires.fits c.requires.whole in
    let ends : c.number_of.result * size + c.positions-count.result * size ≤ length c.args.target.now = omega (arith, room, c.requires.target_len) in
    ends

pub returns : goal.returns
returns c =
    let size = length c.args.piece.now in
    let from : c.number_of.result * size ≡ place c.args.shape.now c.args.start.now * size = ap (λ n. n * size) c.number_of.ensures in
    let len : c.positions-count.result * size ≡ position_count c.args.extents.now * size = ap (λ n. n * size) c.positions-count.ensures in
    let room = row_room size c.args.shape.now c.args.start.now c.args.extents.now c.requires.fits c.requires.whole in
    let w = c.number_of.result * size in
    let count : w + c.positions-count.result * size - w ≡ c.positions-count.result * size = omega arith in
    row_filled w (w + c.positions-count.result * size - w) c.args.shape.now c.args.start.now c.args.extents.now c.args.piece.now c.args.target.now c.fill_run.new.target
    c.requires.fits c.requires.whole c.requires.target_len from (count ∙ len) (omega (arith, room, c.requires.target_len))
    (c.fill_run.ensures ∙ ap (λ n. repeat n c.args.piece.now) c.positions-count.ensures)
