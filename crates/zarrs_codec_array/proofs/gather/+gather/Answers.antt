use Rattle.std.proofs.Common.{refl, ◌-◌, slice_range, rules, arith, ◌≡◌, ◌+◌, ◌*◌, ◌/◌, ◌<◌, ◌≤◌, ◌∷◌, length, ap, sym, subst, get_or, ◌∙◌}
use borrow.Rule.Slice.PartMut.{put_mid}
use Rattle.zarrs_subset.specs.Boxes.{position_count}
use Rattle.zarrs_subset.proofs.Kernel.{length_part, block_is}
use Rattle.zarrs_codec_array.specs.Gathered.{IsGathered}
use Rattle.zarrs_codec_array.proofs.Gathering.{head_tail, row_end, gathered-empty, gathered-more, gathered-first}
use Rattle.zarrs_codec_array.proofs.Gathering.{within-row, some_cell, some_factor, length-slice_tail, some_tail, rows_len}
use Rattle.zarrs_codec_array.proofs.Columns.{table_len}
use Rattle.zarrs_codec_array.proofs.gather.+gather.Goals as goal

pub returns-then-is_empty : goal.returns-then-is_empty
returns-then-is_empty t c =
    let none : length c.args.to.now ≡ 0 = search rules in
    gathered-empty c.args.size c.args.extents.now c.args.steps.now c.args.from.now c.args.to.now c.args.start (omega arith)

pub overflow_add-start : goal.overflow_add-start
overflow_add-start t c =
    let n = c.args.size in
    let some : 0 < length c.args.to.now = search rules in
    let cells : 0 < position_count c.args.extents.now = some_factor (position_count c.args.extents.now) n (omega arith) in
    omega (arith, some_cell n c.args.extents.now c.args.steps.now c.args.start (length c.args.from.now) cells c.requires.within)

pub slice_bounds-copy_from_slice-end : goal.slice_bounds-copy_from_slice-end
slice_bounds-copy_from_slice-end t c =
    let n = c.args.size in
    let some : 0 < length c.args.to.now = search rules in
    let cells : 0 < position_count c.args.extents.now = some_factor (position_count c.args.extents.now) n (omega arith) in
    omega (arith, some_cell n c.args.extents.now c.args.steps.now c.args.start (length c.args.from.now) cells c.requires.within)

-- the cells of the row are within the bytes
pub overflow_mul-i : goal.overflow_mul-i
overflow_mul-i t c =
    let n = c.args.size in
    let shape = c.args.extents.now in
    let dims : 0 < length shape = search rules in
    let some : 0 < length c.args.to.now = search rules in
    let cells : 0 < position_count shape = some_factor (position_count shape) n (omega arith) in
    let row = within-row n c.loop-i.i shape c.args.steps.now c.args.start (length c.args.from.now) dims c.requires.same_length c.requires.within c.loop-i-test.true in
    let room = some_cell n _ _ _ _ (some_tail shape dims cells) row in
    omega (arith, room)

pub overflow_add-start-in-loop-i : goal.overflow_add-start-in-loop-i
overflow_add-start-in-loop-i t c =
    let n = c.args.size in
    let shape = c.args.extents.now in
    let dims : 0 < length shape = search rules in
    let some : 0 < length c.args.to.now = search rules in
    let cells : 0 < position_count shape = some_factor (position_count shape) n (omega arith) in
    let row = within-row n c.loop-i.i shape c.args.steps.now c.args.start (length c.args.from.now) dims c.requires.same_length c.requires.within c.loop-i-test.true in
    let room = some_cell n _ _ _ _ (some_tail shape dims cells) row in
    omega (arith, room)

pub gather-requires : goal.gather-requires
gather-requires t c =
    let n = c.args.size in
    let shape = c.args.extents.now in
    let steps = c.args.steps.now in
    let i = c.loop-i.i in
    let e = get_or shape 0 0 in
    let b = length c.args.to.now / e in
    let dims : 0 < length shape = search rules in
    let dims' : 0 < length steps = omega arith in
    let some : 0 < e = omega arith in
    let is : b ≡ position_count (slice_range shape 1 (length shape)) * n = block_is shape n (length c.args.to.now) some c.requires.len in
    let whole : length c.args.to.now ≡ e * b = c.requires.len ∙ rows_len shape n b dims is in
    let room : i * b + b ≤ length c.loop-i.to = omega (arith, row_end i e b c.loop-i-test.true) in (
      first_of (omega (arith, c.decreases, length-slice_tail shape dims), search rules),
      (
        (omega (arith, length-slice_tail shape dims, length-slice_tail steps dims')),
        (
          length_part (i * b) b c.loop-i.to room ∙ is,
          within-row n i shape steps c.args.start (length c.args.from.now) dims c.requires.same_length c.requires.within c.loop-i-test.true,
        ),
      ),
    )

pub gather_table-requires-clause-len : goal.gather_table-requires-clause-len
gather_table-requires-clause-len t c =
    let two : length c.args.extents.now ≡ 2 = search rules in
    c.requires.len ∙ table_len c.args.extents.now c.args.size two

pub loop-i-preserved : goal.loop-i-preserved
loop-i-preserved t c =
    let n = c.args.size in
    let shape = c.args.extents.now in
    let steps = c.args.steps.now in
    let i = c.loop-i.i in
    let e = get_or shape 0 0 in
    let b = length c.args.to.now / e in
    let dims : 0 < length shape = search rules in
    let dims' : 0 < length steps = omega arith in
    let some : 0 < e = omega arith in
    let is : b ≡ position_count (slice_range shape 1 (length shape)) * n = block_is shape n (length c.args.to.now) some c.requires.len in
    let whole : length c.args.to.now ≡ e * b = c.requires.len ∙ rows_len shape n b dims is in
    let room : i * b + b ≤ length c.loop-i.to = omega (arith, row_end i e b c.loop-i-test.true) in
    let heads = head_tail steps dims' in
    subst (λ s. IsGathered n ((i + 1) ∷ slice_range shape 1 (length shape)) s c.args.start c.args.from.now (put_mid (i * b) (i * b + b - i * b) c.loop-i.to c.gather.new.to)) (sym heads)
    (gathered-more n i (get_or steps 0 0) c.args.start (i * b) b (i * b + b - i * b) (slice_range shape 1 (length shape)) (slice_range steps 1 (length steps)) c.args.from.now c.loop-i.to c.gather.new.to
    is refl (omega arith) room (c.gather.auto.to ∙ length_part (i * b) b c.loop-i.to room)
    (subst (λ s. IsGathered n (i ∷ slice_range shape 1 (length shape)) s c.args.start c.args.from.now c.loop-i.to) heads c.loop-i.invariant)
    c.gather.ensures)

pub loop-i-init : goal.loop-i-init
loop-i-init t c =
    let steps = c.args.steps.now in
    let dims : 0 < length c.args.extents.now = search rules in
    let dims' : 0 < length steps = omega arith in
    subst (λ s. IsGathered c.args.size (0 ∷ slice_range c.args.extents.now 1 (length c.args.extents.now)) s c.args.start c.args.from.now c.args.to.now) (sym (head_tail steps dims'))
    (gathered-first c.args.size (get_or steps 0 0) c.args.start _ _ _ _)

pub returns : goal.returns
returns t c =
    let shape = c.args.extents.now in
    let dims : 0 < length shape = search rules in
    let done : c.loop-i.i ≡ get_or shape 0 0 = omega arith in
    subst (λ s. IsGathered c.args.size s c.args.steps.now c.args.start c.args.from.now c.loop-i.to)
    (ap (λ i. i ∷ slice_range shape 1 (length shape)) done ∙ sym (head_tail shape dims)) c.loop-i.invariant
