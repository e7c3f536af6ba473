use Rattle.std.proofs.Common.{◌≡◌, ◌∙◌, ◌+◌, ◌-◌, ◌*◌, ◌/◌, ◌<◌, ◌++◌, ◌∷◌, append-nil, length, map, drop, refl, sym, ap, arith}
use Rattle.std.specs.Prelude.{slice_index}
use Rattle.std.specs.List.{flat_map, range_with_len}
use Rattle.std.proofs.lemmas.List.{length-drop}
use Rattle.zarrs_subset.specs.Boxes.{positions_from, position_count}
use Rattle.zarrs_data_type_bytes.specs.StringParts.{string_from}
use Rattle.zarrs_data_type_bytes.proofs.BoxRows.{all_slabs, block_is, block_room, filled, inside_rest, on_ok, one_count, row_of, slab_next}
use Rattle.zarrs_data_type_bytes.proofs.string_boxes.+push_box.Goals as goal

pub returns-then-part-eq1 : goal.returns-then-part-eq1
returns-then-part-eq1 t c =
    let hs = c.args.held.start.now in
    let ss = c.args.part.start.now in
    let es = c.args.part.shape.now in
    let strings = c.args.strings.now in
    let ns = c.args.held.shape.now in
    let some : 0 < length hs = omega (arith, c.requires.inside.same_length, c.requires.part_long, c.if-part-eq1.true) in
    let starts = c.requires.inside.starts 0 some in
    let ends = c.requires.inside.ends 0 some in
    let count = one_count ns (omega (arith, c.requires.inside.same_length, c.requires.part_long, c.requires.held_long, c.if-part-eq1.true)) in
    let row = row_of strings c.args.from hs c.args.held.shape.now ss es c.requires.held_long c.requires.part_long c.requires.inside.same_length
    c.if-part-eq1.true (omega (arith, starts)) (omega (arith, starts, ends, c.requires.room, c.requires.count, count)) in
    on_ok c.push_range-then-part-eq1.result _ _ (λ pushed. pushed ∙ ap (λ l. c.args.builder.now ++ l) row) c.push_range-then-part-eq1.ensures.pushed

pub loop-index-init : goal.loop-index-init
loop-index-init t c = sym (append-nil c.args.builder.now)

pub push_box-requires : goal.push_box-requires
push_box-requires t c =
    let hs = c.args.held.start.now in
    let ns = c.args.held.shape.now in
    let ss = c.args.part.start.now in
    let es = c.args.part.shape.now in
    let held = c.rest-inner_held.ensures in
    let part = c.rest-inner_part.ensures in
    let some : 0 < length hs = omega (arith, c.requires.inside.same_length, c.requires.part_long, filled es c.if-extent-eq0.false) in
    let starts = c.requires.inside.starts 0 some in
    let ends = c.requires.inside.ends 0 some in
    let lt : slice_index ss 0 - slice_index hs 0 + c.loop-index.index < slice_index ns 0 = omega (arith, starts, ends, c.loop-index-test.true) in
    let block = block_is c.args.count ns (omega (arith, some, c.requires.held_long)) (omega (arith, lt)) c.requires.count in (
      omega (arith, c.decreases, ap length part.shape, length-drop 1 es, filled es c.if-extent-eq0.false),
      (
        omega (arith, ap length held.start, ap length held.shape, length-drop 1 hs, length-drop 1 ns, c.requires.held_long),
        (
          omega (arith, ap length part.start, ap length part.shape, length-drop 1 ss, length-drop 1 es, c.requires.part_long),
          (
            rw (part.start, part.shape, held.start, held.shape) (inside_rest hs ns ss es c.requires.inside),
            (
              block.1 ∙ ap position_count (sym held.shape),
              (
                block_room c.args.from (slice_index ss 0 - slice_index hs 0) c.loop-index.index (slice_index ns 0) (c.args.count / slice_index ns 0) c.args.count (length c.args.strings.now) lt
                    (block.0 ∙ ap (λ b. slice_index ns 0 * b) (sym block.1)) c.requires.room,
                c.requires.fits,
              ),
            ),
          ),
        ),
      ),
    )

pub loop-index-preserved : goal.loop-index-preserved
loop-index-preserved t c =
    let hs = c.args.held.start.now in
    let ns = c.args.held.shape.now in
    let ss = c.args.part.start.now in
    let es = c.args.part.shape.now in
    let held = c.rest-inner_held.ensures in
    let part = c.rest-inner_part.ensures in
    let some : 0 < length hs = omega (arith, c.requires.inside.same_length, c.requires.part_long, filled es c.if-extent-eq0.false) in
    let starts = c.requires.inside.starts 0 some in
    let ends = c.requires.inside.ends 0 some in
    let positive : 0 < slice_index ns 0 = omega (arith, starts, ends, c.loop-index-test.true) in
    let block = block_is c.args.count ns (omega (arith, some, c.requires.held_long)) positive c.requires.count in
    let pushed = rw (held.start, held.shape, part.start, part.shape) at c.in_ok-push_box.ensures in
    slab_next c.args.strings.now c.args.from hs ns ss es c.loop-index.index (c.args.count / slice_index ns 0)
    (c.args.from + (slice_index ss 0 - slice_index hs 0 + c.loop-index.index) * (c.args.count / slice_index ns 0))
    c.args.builder.now c.loop-index.builder c.push_box.new.builder
    some (omega (arith, some, c.requires.held_long)) starts block.1 refl c.loop-index.invariant pushed

pub returns : goal.returns
returns t c =
    let hs = c.args.held.start.now in
    let ns = c.args.held.shape.now in
    let ss = c.args.part.start.now in
    let es = c.args.part.shape.now in
    let f = string_from c.args.strings.now c.args.from hs ns in
    let all : c.loop-index.index ≡ slice_index es 0 = omega arith in
    let some : 0 < length es = filled es c.if-extent-eq0.false in
    c.loop-index.invariant
    ∙ ap (λ k. c.args.builder.now ++ map f (flat_map (λ i. map (λ p. i ∷ p) (positions_from (drop 1 ss) (drop 1 es))) (range_with_len (slice_index ss 0) k))) all
    ∙ ap (λ l. c.args.builder.now ++ map f l) (all_slabs ss es (omega (arith, some, c.requires.part_long)) some)
