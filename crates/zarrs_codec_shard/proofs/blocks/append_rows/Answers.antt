use Rattle.std.proofs.Common.{◌≡◌, ◌*◌, ◌++◌, ap, arith, refl, ◌∙◌}
use Rattle.std.specs.Prelude.{slice_index}
use Rattle.zarrs_subset.specs.Regions.{box_from, box_of}
use Rattle.zarrs_codec_shard.proofs.PlaneRows.{fits, if_refused, no_cells, no_rows, place_of, row_added}
use Rattle.zarrs_codec_shard.proofs.RowBlocks.{block_more}
use Rattle.zarrs_codec_shard.proofs.blocks.append_rows.Goals as goal

pub returns-then-rows-eq0-clause-added : goal.returns-then-rows-eq0-clause-added
returns-then-rows-eq0-clause-added c =
    let part = box_from c.args.corner.now c.args.shape.now in
    let long = c.requires.long in
    no_cells c.args.size (box_of c.args.held_box.now) c.args.bytes.now c.args.made.now.items part long (omega (arith, c.requires.plane)) c.if-rows-eq0.true

pub overflow_mul-first : goal.overflow_mul-first
overflow_mul-first c =
    let held = box_of c.args.held_box.now in
    let part = box_from c.args.corner.now c.args.shape.now in
    let f = fits c.args.size 0 held part c.args.bytes.now c.requires.positive c.args.held_box.now.same_length c.requires.long c.requires.plane c.requires.inside c.requires.held_len (omega (arith, c.if-rows-eq0.false)) in
    let at = place_of c.args.size 0 held part c.args.bytes.now c.requires.positive c.args.held_box.now.same_length c.requires.long c.requires.plane c.requires.inside c.requires.held_len (omega (arith, c.if-rows-eq0.false)) c.args.corner.now c.start-held_start.result.now c.shape.result.now refl c.start-held_start.ensures c.shape.ensures in
    omega (arith, at, f.bytes)

pub overflow_mul-stride : goal.overflow_mul-stride
overflow_mul-stride c =
    let held = box_of c.args.held_box.now in
    let part = box_from c.args.corner.now c.args.shape.now in
    let f = fits c.args.size 0 held part c.args.bytes.now c.requires.positive c.args.held_box.now.same_length c.requires.long c.requires.plane c.requires.inside c.requires.held_len (omega (arith, c.if-rows-eq0.false)) in
    omega (arith, f.stride, ap (λ l. slice_index l 1 * c.args.size) c.shape.ensures)

pub overflow_mul-len : goal.overflow_mul-len
overflow_mul-len c =
    let held = box_of c.args.held_box.now in
    let part = box_from c.args.corner.now c.args.shape.now in
    let f = fits c.args.size 0 held part c.args.bytes.now c.requires.positive c.args.held_box.now.same_length c.requires.long c.requires.plane c.requires.inside c.requires.held_len (omega (arith, c.if-rows-eq0.false)) in
    omega (arith, f.bytes)

pub loop-row-init : goal.loop-row-init
loop-row-init c =
    let part = box_from c.args.corner.now c.args.shape.now in
    let long = c.requires.long in (
      omega arith,
      no_rows c.args.size (box_of c.args.held_box.now) c.args.bytes.now c.args.made.now.items part long (omega (arith, c.requires.plane)),
    )

pub overflow_mul-from : goal.overflow_mul-from
overflow_mul-from c =
    let held = box_of c.args.held_box.now in
    let part = box_from c.args.corner.now c.args.shape.now in
    let f = fits c.args.size c.loop-row.row held part c.args.bytes.now c.requires.positive c.args.held_box.now.same_length c.requires.long c.requires.plane c.requires.inside c.requires.held_len c.loop-row-test.true in
    let at = place_of c.args.size c.loop-row.row held part c.args.bytes.now c.requires.positive c.args.held_box.now.same_length c.requires.long c.requires.plane c.requires.inside c.requires.held_len c.loop-row-test.true c.args.corner.now c.start-held_start.result.now c.shape.result.now refl c.start-held_start.ensures c.shape.ensures in
    omega (arith, at, f.bytes)

pub overflow_add-from : goal.overflow_add-from
overflow_add-from c =
    let held = box_of c.args.held_box.now in
    let part = box_from c.args.corner.now c.args.shape.now in
    let f = fits c.args.size c.loop-row.row held part c.args.bytes.now c.requires.positive c.args.held_box.now.same_length c.requires.long c.requires.plane c.requires.inside c.requires.held_len c.loop-row-test.true in
    let at = place_of c.args.size c.loop-row.row held part c.args.bytes.now c.requires.positive c.args.held_box.now.same_length c.requires.long c.requires.plane c.requires.inside c.requires.held_len c.loop-row-test.true c.args.corner.now c.start-held_start.result.now c.shape.result.now refl c.start-held_start.ensures c.shape.ensures in
    omega (arith, at, f.bytes)

pub overflow_add-from-in-loop-row : goal.overflow_add-from-in-loop-row
overflow_add-from-in-loop-row c =
    let held = box_of c.args.held_box.now in
    let part = box_from c.args.corner.now c.args.shape.now in
    let f = fits c.args.size c.loop-row.row held part c.args.bytes.now c.requires.positive c.args.held_box.now.same_length c.requires.long c.requires.plane c.requires.inside c.requires.held_len c.loop-row-test.true in
    let at = place_of c.args.size c.loop-row.row held part c.args.bytes.now c.requires.positive c.args.held_box.now.same_length c.requires.long c.requires.plane c.requires.inside c.requires.held_len c.loop-row-test.true c.args.corner.now c.start-held_start.result.now c.shape.result.now refl c.start-held_start.ensures c.shape.ensures in
    omega (arith, at, f.bytes)

pub slice_bounds-extend_from_slice-end : goal.slice_bounds-extend_from_slice-end
slice_bounds-extend_from_slice-end c =
    let held = box_of c.args.held_box.now in
    let part = box_from c.args.corner.now c.args.shape.now in
    let f = fits c.args.size c.loop-row.row held part c.args.bytes.now c.requires.positive c.args.held_box.now.same_length c.requires.long c.requires.plane c.requires.inside c.requires.held_len c.loop-row-test.true in
    let at = place_of c.args.size c.loop-row.row held part c.args.bytes.now c.requires.positive c.args.held_box.now.same_length c.requires.long c.requires.plane c.requires.inside c.requires.held_len c.loop-row-test.true c.args.corner.now c.start-held_start.result.now c.shape.result.now refl c.start-held_start.ensures c.shape.ensures in
    omega (arith, at, f.bytes)

pub loop-row-preserved : goal.loop-row-preserved
loop-row-preserved c =
    let held = box_of c.args.held_box.now in
    let part = box_from c.args.corner.now c.args.shape.now in
    let at = place_of c.args.size c.loop-row.row held part c.args.bytes.now c.requires.positive c.args.held_box.now.same_length c.requires.long c.requires.plane c.requires.inside c.requires.held_len c.loop-row-test.true c.args.corner.now c.start-held_start.result.now c.shape.result.now refl c.start-held_start.ensures c.shape.ensures in
    let long = c.requires.long in
    let added =
    row_added c.args.size c.loop-row.row held part c.args.bytes.now c.requires.positive c.args.held_box.now.same_length long c.requires.plane c.requires.inside c.requires.held_len c.loop-row-test.true
    c.loop-row.made.items _ _ _ at refl c.in_ok-extend_from_slice.ensures.items in (
      omega (arith, c.loop-row-test.true),
      block_more c.args.size held c.args.bytes.now c.args.made.now.items c.loop-row.made.items c.extend_from_slice.new.self.items c.loop-row.row 1 part long (omega (arith, c.requires.plane)) c.loop-row.invariant.1 added,
    )

pub returns-in_err-extend_from_slice-clause-refused : goal.returns-in_err-extend_from_slice-clause-refused
returns-in_err-extend_from_slice-clause-refused c =
    let same : c.extend_from_slice.new.self.items ≡ c.args.made.now.items ++ c.loop-row.invariant.1.added = c.in_err-extend_from_slice.ensures.items ∙ c.loop-row.invariant.1.new_is in
    if_refused c.from_residual.result (c.loop-row.invariant.1.added, same)
