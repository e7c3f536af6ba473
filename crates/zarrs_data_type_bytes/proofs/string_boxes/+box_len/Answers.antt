use Rattle.std.proofs.Common.{◌∙◌, ◌+◌, ◌-◌, ◌*◌, ◌/◌, ◌<◌, length, sym, ap, arith}
use Rattle.std.specs.Prelude.{slice_index}
use Rattle.std.proofs.lemmas.List.{length-drop}
use Rattle.zarrs_subset.specs.Boxes.{position_count}
use Rattle.zarrs_data_type_bytes.proofs.BoxRows.{block_is, block_room, filled, inside_rest}
use Rattle.zarrs_data_type_bytes.proofs.string_boxes.+box_len.Goals as goal

pub box_len-requires : goal.box_len-requires
box_len-requires t c =
    let hs = c.args.held.start.now in
    let ns = c.args.held.shape.now in
    let ss = c.args.part.start.now in
    let es = c.args.part.shape.now in
    let held = c.rest-inner_held.ensures in
    let part = c.rest-inner_part.ensures in
    let some : 0 < length hs = omega (arith, c.requires.inside.same_length, c.requires.part_long, filled es c.if-extent-eq0.false) in
    let starts = c.requires.inside.starts 0 some in
    let ends = c.requires.inside.ends 0 some in
    let lt : slice_index ss 0 - slice_index hs 0 + c.loop-index.index < slice_index ns 0 = omega (arith, starts, ends, c.loop-index-test.true) in
    let block = block_is c.args.count ns (omega (arith, some, c.requires.held_long)) (omega (arith, lt)) c.requires.count in (
      omega (arith, c.decreases, ap length part.shape, length-drop 1 es, filled es c.if-extent-eq0.false),
      (
        omega (arith, ap length held.start, ap length held.shape, length-drop 1 hs, length-drop 1 ns, c.requires.held_long),
        (
          omega (arith, ap length part.start, ap length part.shape, length-drop 1 ss, length-drop 1 es, c.requires.part_long),
          (
            rw (part.start, part.shape, held.start, held.shape) (inside_rest hs ns ss es c.requires.inside),
            (
              block.1 ∙ ap position_count (sym held.shape),
              (
                block_room c.args.from (slice_index ss 0 - slice_index hs 0) c.loop-index.index (slice_index ns 0) (c.args.count / slice_index ns 0) c.args.count (length c.args.strings.now) lt
                    (block.0 ∙ ap (λ b. slice_index ns 0 * b) (sym block.1)) c.requires.room,
                c.requires.fits,
              ),
            ),
          ),
        ),
      ),
    )
