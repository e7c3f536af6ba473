use Rattle.std.proofs.Common.{◌+◌, ◌*◌, get_or, slice_range, refl, ◌∙◌, arith}
use Rattle.zarrs_subset.proofs.Kernel.{row_room, BoxCopied-row, length_part}
use Rattle.zarrs_codec_chain.proofs.Turns.{turned_part}
use Rattle.zarrs_codec_chain.proofs.bytes_into.turn_row.Goals as goal

pub overflow_mul-read : goal.overflow_mul-read
overflow_mul-read g c = omega (arith, row_room _ _ _ _ _ c.requires.one_dimension c.requires.source_fits c.requires.source_len)

pub overflow_mul-write : goal.overflow_mul-write
overflow_mul-write g c = omega (arith, row_room _ _ _ _ _ c.requires.one_dimension c.requires.target_fits c.requires.target_len)

pub overflow_mul-len : goal.overflow_mul-len
overflow_mul-len g c = omega (arith, row_room _ _ _ _ _ c.requires.one_dimension c.requires.target_fits c.requires.target_len)

pub overflow_add-write : goal.overflow_add-write
overflow_add-write g c = omega (arith, row_room _ _ _ _ _ c.requires.one_dimension c.requires.target_fits c.requires.target_len)

pub slice_bounds-turn_run-end-2 : goal.slice_bounds-turn_run-end-2
slice_bounds-turn_run-end-2 g c = row_room _ _ _ _ _ c.requires.one_dimension c.requires.target_fits c.requires.target_len

pub overflow_add-read : goal.overflow_add-read
overflow_add-read g c = omega (arith, row_room _ _ _ _ _ c.requires.one_dimension c.requires.source_fits c.requires.source_len)

pub slice_bounds-turn_run-end : goal.slice_bounds-turn_run-end
slice_bounds-turn_run-end g c = row_room _ _ _ _ _ c.requires.one_dimension c.requires.source_fits c.requires.source_len

pub returns : goal.returns
returns g c = λ turned is.
    let N = g.row.N in
    let len = get_or c.args.extents.now 0 0 * N in
    let from = get_or c.args.from.start.now 0 0 * N in
    let room = row_room _ _ _ _ _ c.requires.one_dimension c.requires.target_fits c.requires.target_len in
    let source_room = row_room _ _ _ _ _ c.requires.one_dimension c.requires.source_fits c.requires.source_len in
    let part = turned_part N (get_or c.args.from.start.now 0 0) from len c.args.source.now turned refl source_room is in
    BoxCopied-row _ _ _ _ _ _ _ _ _ _ _ _ _ _ c.requires.one_dimension refl c.requires.source_fits c.requires.target_fits
    refl refl
    refl (omega arith) room (c.turn_run.ensures (slice_range turned from (from + len)) part)
    (c.turn_run.auto.target ∙ length_part _ _ _ room)
