use Rattle.std.proofs.Common.{◌≡◌, ◌+◌, ◌*◌, ◌<◌, ◌≤◌, length, get_or, slice_range, ap, sym, ◌∙◌, arith}
use Rattle.std.proofs.Math.Nat.{mul_assoc}
use Rattle.zarrs_subset.specs.Boxes.{position_count}
use Rattle.zarrs_subset.proofs.Kernel.{FirstFits-at, block_order, length_part, BoxCopied-empty, BoxCopied-step}
use Rattle.zarrs_codec_chain.proofs.Turns.{one_left, turned_part}
use Rattle.zarrs_codec_chain.proofs.bytes_into.turn_plane.Goals as goal

pub returns-then-extent-eq0 : goal.returns-then-extent-eq0
returns-then-extent-eq0 g c = λ turned is.
    let some : 0 < length c.args.extents.now = omega (arith, c.requires.two_dimensions) in
    BoxCopied-empty _ _ _ _ _ _ _ _ some c.if-extent-eq0.true c.requires.target_fits

pub turn_row-requires-clause-one_dimension : goal.turn_row-requires-clause-one_dimension
turn_row-requires-clause-one_dimension g c = one_left c.args.extents.now c.requires.two_dimensions

pub turn_row-requires-clause-source_fits : goal.turn_row-requires-clause-source_fits
turn_row-requires-clause-source_fits g c = c.first_block-first.ensures.inner

pub turn_row-requires-clause-target_fits : goal.turn_row-requires-clause-target_fits
turn_row-requires-clause-target_fits g c = c.first_block-target_first.ensures.inner

pub turn_row-requires-clause-source_len : goal.turn_row-requires-clause-source_len
turn_row-requires-clause-source_len g c =
    let read = c.first_block-first.ensures.block _ c.requires.source_len in
    let row = c.loop-row.row in
    let sb = c.first_block-first.result.1 in
    let source_room : c.first_block-first.result.0 + row * sb + sb ≤ length c.args.source.now = omega (arith, block_order row _ sb c.loop-row-test.true) in
    length_part _ _ _ source_room ∙ read

pub turn_row-requires-clause-target_len : goal.turn_row-requires-clause-target_len
turn_row-requires-clause-target_len g c =
    let write = c.first_block-target_first.ensures.block _ c.requires.target_len in
    let row = c.loop-row.row in
    let tb = c.first_block-target_first.result.1 in
    let room : c.first_block-target_first.result.0 + row * tb + tb ≤ length c.loop-row.target = omega (arith, block_order row _ tb c.loop-row-test.true) in
    length_part _ _ _ room ∙ write

pub loop-row-preserved : goal.loop-row-preserved
loop-row-preserved g c = λ turned is.
    let N = g.row.N in
    let some : 0 < length c.args.extents.now = omega (arith, c.requires.two_dimensions) in
    let source = FirstFits-at _ _ _ some c.requires.source_fits in
    let target = FirstFits-at _ _ _ some c.requires.target_fits in
    let read = c.first_block-first.ensures.block _ c.requires.source_len in
    let write = c.first_block-target_first.ensures.block _ c.requires.target_len in
    let row = c.loop-row.row in
    let sb = c.first_block-first.result.1 in
    let f = get_or c.args.from.start.now 0 0 in
    let inner = position_count (slice_range c.args.from.shape.now 1 (length c.args.from.shape.now)) in
    let r = c.first_block-first.result.0 + row * sb in
    let first : r ≡ (f + row) * sb = rw c.first_block-first.ensures.offset (omega arith) in
    let begin : r ≡ (f + row) * inner * N = first ∙ ap (λ x. (f + row) * x) read ∙ sym (mul_assoc (f + row) inner N) in
    let source_room : r + sb ≤ length c.args.source.now = omega (arith, block_order row _ sb c.loop-row-test.true) in
    let part = turned_part N ((f + row) * inner) r sb c.args.source.now turned begin source_room is in
    let room : c.first_block-target_first.result.0 + row * c.first_block-target_first.result.1 + c.first_block-target_first.result.1 ≤ length c.loop-row.target =
    omega (arith, block_order row _ c.first_block-target_first.result.1 c.loop-row-test.true) in
    BoxCopied-step _ _ _ _ _ _ _ _ _ _ _ _ _ _ _ _ _ source target read write
    first (rw c.first_block-target_first.ensures.offset (omega arith))
    (omega arith) room (c.turn_row.auto.target ∙ length_part _ _ _ room) (c.loop-row.invariant turned is) (c.turn_row.ensures (slice_range turned r (r + sb)) part)
