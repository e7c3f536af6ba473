use Rattle.std.proofs.Common.{◌≡◌, ◌≤◌, ◌<◌, ◌+◌, ◌-◌, ◌*◌, ◌∷◌, ◌∙◌, ◌^◌, refl, length, take, drop, slice_index, ap, sym, subst, arith}
use Rattle.std.proofs.Math.Nat.{mul-le-mul_right}
use Rattle.std.proofs.lemmas.List.{length-drop, length-take-le}
use borrow.Rule.Slice.PartMut.{put_mid}
use Rattle.zarrs_subset.specs.Boxes.{position_count}
use Rattle.zarrs_subset.proofs.Joined.{length_shape}
use Rattle.zarrs_subset.proofs.Nothing.{length_fits}
use Rattle.zarrs_data_type_region.specs.Targets.{IsFilledBox}
use Rattle.zarrs_data_type_region.proofs.TargetLevels.{end_is}
use Rattle.zarrs_data_type_region.proofs.Rows.{block_ends, block_more, block_room, blocks_all, blocks_none, length_put, next_room, ones_ahead, whole_behind}
use Rattle.zarrs_data_type_region.proofs.target.+fill_blocks.Goals as goal

pub positions-requires : goal.positions-requires
positions-requires t c =
    let shape = c.args.shape.now in
    let start = c.args.start.now in
    let extents = c.args.extents.now in
    let size = length c.args.piece.now in
    let dimensions : 0 < length shape = omega (arith, c.requires.axis) in
    let parts = block_room shape start extents dimensions c.requires.fits c.requires.some in
    rw (end_is 1 shape) (omega (arith, parts.inner, c.requires.counted))

pub overflow_mul-block : goal.overflow_mul-block
overflow_mul-block t c =
    let shape = c.args.shape.now in
    let start = c.args.start.now in
    let extents = c.args.extents.now in
    let size = length c.args.piece.now in
    let dimensions : 0 < length shape = omega (arith, c.requires.axis) in
    let parts = block_room shape start extents dimensions c.requires.fits c.requires.some in
    let block : c.positions.result * size ≡ position_count (drop 1 shape) * size = ap (λ n. n * size) (c.positions.ensures ∙ ap position_count (end_is 1 shape)) in
    omega (arith, mul-le-mul_right size parts.inner, c.requires.target_len)

pub overflow_add-index-end : goal.overflow_add-index-end
overflow_add-index-end t c =
    let shape = c.args.shape.now in
    let start = c.args.start.now in
    let extents = c.args.extents.now in
    let size = length c.args.piece.now in
    let dimensions : 0 < length shape = omega (arith, c.requires.axis) in
    let parts = block_room shape start extents dimensions c.requires.fits c.requires.some in
    omega (arith, parts.room, parts.extent, c.requires.counted)

pub loop-index-init : goal.loop-index-init
loop-index-init t c =
    let shape = c.args.shape.now in
    let start = c.args.start.now in
    let extents = c.args.extents.now in
    let size = length c.args.piece.now in
    let dimensions : 0 < length shape = omega (arith, c.requires.axis) in
    let parts = block_room shape start extents dimensions c.requires.fits c.requires.some in
    let none : 0 ≡ slice_index start 0 - slice_index start 0 = omega arith in
    record {
      len = refl;
      filled = subst (λ d. IsFilledBox size shape start (d ∷ drop 1 extents) c.args.piece.now c.args.target.now c.args.target.now) none
          (blocks_none size shape start extents c.args.piece.now c.args.target.now dimensions c.requires.fits);
    }

pub overflow_mul-from : goal.overflow_mul-from
overflow_mul-from t c =
    let shape = c.args.shape.now in
    let start = c.args.start.now in
    let extents = c.args.extents.now in
    let size = length c.args.piece.now in
    let dimensions : 0 < length shape = omega (arith, c.requires.axis) in
    let parts = block_room shape start extents dimensions c.requires.fits c.requires.some in
    let block : c.positions.result * size ≡ position_count (drop 1 shape) * size = ap (λ n. n * size) (c.positions.ensures ∙ ap position_count (end_is 1 shape)) in
    let below : c.loop-index.index < slice_index start 0 + slice_index extents 0 = omega arith in
    let ends = block_ends size c.loop-index.index shape start extents parts below in
    let from : c.loop-index.index * (c.positions.result * size) ≡ c.loop-index.index * (position_count (drop 1 shape) * size) = ap (λ n. c.loop-index.index * n) block in
    omega (arith, ends, c.requires.target_len)

pub overflow_add-from : goal.overflow_add-from
overflow_add-from t c =
    let shape = c.args.shape.now in
    let start = c.args.start.now in
    let extents = c.args.extents.now in
    let size = length c.args.piece.now in
    let dimensions : 0 < length shape = omega (arith, c.requires.axis) in
    let parts = block_room shape start extents dimensions c.requires.fits c.requires.some in
    let block : c.positions.result * size ≡ position_count (drop 1 shape) * size = ap (λ n. n * size) (c.positions.ensures ∙ ap position_count (end_is 1 shape)) in
    let below : c.loop-index.index < slice_index start 0 + slice_index extents 0 = omega arith in
    let ends = block_ends size c.loop-index.index shape start extents parts below in
    let from : c.loop-index.index * (c.positions.result * size) ≡ c.loop-index.index * (position_count (drop 1 shape) * size) = ap (λ n. c.loop-index.index * n) block in
    omega (arith, ends, c.requires.target_len)

pub slice_bounds-fill_blocks-end-in-loop-index-3 : goal.slice_bounds-fill_blocks-end-in-loop-index-3
slice_bounds-fill_blocks-end-in-loop-index-3 t c =
    let shape = c.args.shape.now in
    let start = c.args.start.now in
    let extents = c.args.extents.now in
    let size = length c.args.piece.now in
    let dimensions : 0 < length shape = omega (arith, c.requires.axis) in
    let parts = block_room shape start extents dimensions c.requires.fits c.requires.some in
    let block : c.positions.result * size ≡ position_count (drop 1 shape) * size = ap (λ n. n * size) (c.positions.ensures ∙ ap position_count (end_is 1 shape)) in
    let below : c.loop-index.index < slice_index start 0 + slice_index extents 0 = omega arith in
    let ends = block_ends size c.loop-index.index shape start extents parts below in
    let from : c.loop-index.index * (c.positions.result * size) ≡ c.loop-index.index * (position_count (drop 1 shape) * size) = ap (λ n. c.loop-index.index * n) block in
    let inside : c.loop-index.index * (c.positions.result * size) + c.positions.result * size ≤ length c.loop-index.target = omega (arith, ends, c.requires.target_len, c.loop-index.invariant.len) in
    inside

pub slice_bounds-fill_blocks-count-in-loop-index : goal.slice_bounds-fill_blocks-count-in-loop-index
slice_bounds-fill_blocks-count-in-loop-index t c =
    let shape = c.args.shape.now in
    let start = c.args.start.now in
    let extents = c.args.extents.now in
    let ahead = ones_ahead c.args.axis c.leading_ones-next.result shape (omega arith) c.leading_ones-next.ensures.counted in
    omega (arith, ahead.within, c.requires.axis, length_shape start extents shape c.requires.fits, length_fits start extents shape c.requires.fits)

pub slice_bounds-fill_blocks-start-in-loop-index : goal.slice_bounds-fill_blocks-start-in-loop-index
slice_bounds-fill_blocks-start-in-loop-index t c =
    let shape = c.args.shape.now in
    let start = c.args.start.now in
    let extents = c.args.extents.now in
    let ahead = ones_ahead c.args.axis c.leading_ones-next.result shape (omega arith) c.leading_ones-next.ensures.counted in
    omega (arith, ahead.within, c.requires.axis, length_shape start extents shape c.requires.fits, length_fits start extents shape c.requires.fits)

pub slice_bounds-fill_blocks-count-in-loop-index-2 : goal.slice_bounds-fill_blocks-count-in-loop-index-2
slice_bounds-fill_blocks-count-in-loop-index-2 t c =
    let shape = c.args.shape.now in
    let start = c.args.start.now in
    let extents = c.args.extents.now in
    let ahead = ones_ahead c.args.axis c.leading_ones-next.result shape (omega arith) c.leading_ones-next.ensures.counted in
    omega (arith, ahead.within, c.requires.axis, length_shape start extents shape c.requires.fits)

pub slice_bounds-fill_blocks-start-in-loop-index-2 : goal.slice_bounds-fill_blocks-start-in-loop-index-2
slice_bounds-fill_blocks-start-in-loop-index-2 t c =
    let shape = c.args.shape.now in
    let start = c.args.start.now in
    let extents = c.args.extents.now in
    let ahead = ones_ahead c.args.axis c.leading_ones-next.result shape (omega arith) c.leading_ones-next.ensures.counted in
    omega (arith, ahead.within, c.requires.axis, length_shape start extents shape c.requires.fits)

pub fill_blocks-requires : goal.fill_blocks-requires
fill_blocks-requires t c =
    let shape = c.args.shape.now in
    let start = c.args.start.now in
    let extents = c.args.extents.now in
    let size = length c.args.piece.now in
    let dimensions : 0 < length shape = omega (arith, c.requires.axis) in
    let parts = block_room shape start extents dimensions c.requires.fits c.requires.some in
    let block : c.positions.result * size ≡ position_count (drop 1 shape) * size = ap (λ n. n * size) (c.positions.ensures ∙ ap position_count (end_is 1 shape)) in
    let below : c.loop-index.index < slice_index start 0 + slice_index extents 0 = omega arith in
    let ends = block_ends size c.loop-index.index shape start extents parts below in
    let from : c.loop-index.index * (c.positions.result * size) ≡ c.loop-index.index * (position_count (drop 1 shape) * size) = ap (λ n. c.loop-index.index * n) block in
    let w = c.loop-index.index * (c.positions.result * size) in
    let k = c.positions.result * size in
    let count : w + k - w ≡ k = omega arith in
    let inside : w + k ≤ length c.loop-index.target = omega (arith, ends, c.requires.target_len, c.loop-index.invariant.len) in
    let part_len : length (take (w + k - w) (drop w c.loop-index.target)) ≡ k =
    length-take-le (w + k - w) (drop w c.loop-index.target) (omega (arith, length-drop w c.loop-index.target)) ∙ count in
    let ahead = ones_ahead c.args.axis c.leading_ones-next.result shape (omega (arith, c.requires.axis)) c.leading_ones-next.ensures.counted in
    let next = c.leading_ones-next.result + 1 in
    let low : next ≤ c.args.axis = omega (arith, ahead.within) in
    let behind = next_room c.leading_ones-next.result shape start extents ahead.ones parts in
    let axis : c.args.axis - next ≤ length (drop next shape) = omega (arith, c.requires.axis, length-drop next shape) in
    let counted : position_count (drop next shape) < 2 ^ 64 = omega (arith, behind.count, parts.inner, c.requires.counted) in
    let whole = whole_behind c.args.axis next shape extents low c.requires.whole in
    let same : position_count (drop 1 shape) * size ≡ position_count (drop next shape) * size = ap (λ n. n * size) (sym behind.count) in
    rw (end_is next shape, end_is next start, end_is next extents) (omega (arith, c.decreases), (behind.fits, (counted, (behind.some, (axis, (whole, part_len ∙ block ∙ same))))))

pub loop-index-preserved : goal.loop-index-preserved
loop-index-preserved t c =
    let shape = c.args.shape.now in
    let start = c.args.start.now in
    let extents = c.args.extents.now in
    let size = length c.args.piece.now in
    let dimensions : 0 < length shape = omega (arith, c.requires.axis) in
    let parts = block_room shape start extents dimensions c.requires.fits c.requires.some in
    let block : c.positions.result * size ≡ position_count (drop 1 shape) * size = ap (λ n. n * size) (c.positions.ensures ∙ ap position_count (end_is 1 shape)) in
    let below : c.loop-index.index < slice_index start 0 + slice_index extents 0 = omega arith in
    let ends = block_ends size c.loop-index.index shape start extents parts below in
    let from : c.loop-index.index * (c.positions.result * size) ≡ c.loop-index.index * (position_count (drop 1 shape) * size) = ap (λ n. c.loop-index.index * n) block in
    let piece = c.args.piece.now in
    let s = slice_index start 0 in
    let d = c.loop-index.index - s in
    let mid = c.loop-index.target in
    let new = c.fill_blocks.new.target in
    let w = c.loop-index.index * (c.positions.result * size) in
    let k = c.positions.result * size in
    let count : w + k - w ≡ k = omega arith in
    let low : s ≤ c.loop-index.index = c.loop-index.auto.index in
    let inside : w + k ≤ length mid = omega (arith, ends, c.requires.target_len, c.loop-index.invariant.len) in
    let new_len : length new ≡ w + k - w = c.fill_blocks.auto.target ∙ length-take-le (w + k - w) (drop w mid) (omega (arith, length-drop w mid)) in
    let number : c.loop-index.index ≡ s + d = omega arith in
    let next : d + 1 ≡ c.loop-index.index + 1 - s = omega arith in
    let at : w ≡ (s + d) * (w + k - w) = ap (λ n. n * k) number ∙ ap (λ n. (s + d) * n) (sym count) in
    let ahead = ones_ahead c.args.axis c.leading_ones-next.result shape (omega (arith, c.requires.axis)) c.leading_ones-next.ensures.counted in
    let rest = c.leading_ones-next.result + 1 in
    let behind = next_room c.leading_ones-next.result shape start extents ahead.ones parts in
    let made = behind.filled size piece (take (w + k - w) (drop w mid)) new (rw (end_is rest shape, end_is rest start, end_is rest extents) at c.fill_blocks.ensures) in
    record {
      len = length_put w (w + k - w) mid new (omega arith) new_len ∙ c.loop-index.invariant.len;
      filled = subst (λ n. IsFilledBox size shape start (n ∷ drop 1 extents) piece c.args.target.now (put_mid w (w + k - w) mid new)) next
          (block_more d w (w + k - w) size shape start extents piece c.args.target.now mid new c.requires.fits (omega arith) (count ∙ block) at
          (c.loop-index.invariant.len ∙ c.requires.target_len) new_len made c.loop-index.invariant.filled);
    }

pub returns : goal.returns
returns t c =
    let shape = c.args.shape.now in
    let start = c.args.start.now in
    let extents = c.args.extents.now in
    let size = length c.args.piece.now in
    let dimensions : 0 < length shape = omega (arith, c.requires.axis) in
    let parts = block_room shape start extents dimensions c.requires.fits c.requires.some in
    let all : c.loop-index.index - slice_index start 0 ≡ slice_index extents 0 = omega arith in
    blocks_all size (c.loop-index.index - slice_index start 0) shape start extents c.args.piece.now c.args.target.now c.loop-index.target parts.extents_some all c.loop-index.invariant.filled
