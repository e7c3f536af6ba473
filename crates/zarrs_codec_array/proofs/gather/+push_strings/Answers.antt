use Rattle.std.proofs.Common.{rules, arith, ◌≡◌, ◌+◌, ◌*◌, ◌<◌, ◌++◌, [], length, map, get_or, ap, ◌∙◌, slice_index_or, slice_range}
use Rattle.std.specs.List.{flat_map, range_with_len}
use Rattle.zarrs_codec_array.specs.Gathered.{walked}
use Rattle.zarrs_codec_array.proofs.Gathering.{within-row, some_cell, some_tail, length-slice_tail}
use Rattle.zarrs_codec_array.proofs.Walks.{walked_more, walked-rows}
use Rattle.zarrs_codec_array.proofs.gather.+push_strings.Goals as goal

pub get-requires : goal.get-requires
get-requires t c =
    omega (arith, some_cell 1 c.args.extents.now c.args.steps.now c.args.start (length c.args.from.now) c.requires.some c.requires.within)

pub overflow_mul-first : goal.overflow_mul-first
overflow_mul-first t c =
    let shape = c.args.extents.now in
    let dims : 0 < length shape = search rules in
    let row = within-row 1 c.loop-i.i shape c.args.steps.now c.args.start (length c.args.from.now) dims c.requires.same_length c.requires.within c.loop-i-test.true in
    let room = some_cell 1 _ _ _ _ (some_tail shape dims c.requires.some) row in
    omega (arith, room, c.requires.fits)

pub overflow_add-first : goal.overflow_add-first
overflow_add-first t c =
    let shape = c.args.extents.now in
    let dims : 0 < length shape = search rules in
    let row = within-row 1 c.loop-i.i shape c.args.steps.now c.args.start (length c.args.from.now) dims c.requires.same_length c.requires.within c.loop-i-test.true in
    let room = some_cell 1 _ _ _ _ (some_tail shape dims c.requires.some) row in
    omega (arith, room, c.requires.fits)

pub push_strings-requires : goal.push_strings-requires
push_strings-requires t c =
    let shape = c.args.extents.now in
    let dims : 0 < length shape = search rules in
    let row = within-row 1 c.loop-i.i shape c.args.steps.now c.args.start (length c.args.from.now) dims c.requires.same_length c.requires.within c.loop-i-test.true in
    let steps = c.args.steps.now in
    let dims' : 0 < length steps = omega arith in (
      first_of (omega (arith, c.decreases, length-slice_tail shape dims), search rules),
      (
        (omega (arith, length-slice_tail shape dims, length-slice_tail steps dims')),
        (
          some_tail shape dims c.requires.some,
          (c.requires.fits, row),
        ),
      ),
    )

pub loop-i-preserved : goal.loop-i-preserved
loop-i-preserved t c =
    let shape = slice_range c.args.extents.now 1 (length c.args.extents.now) in
    let steps = slice_range c.args.steps.now 1 (length c.args.steps.now) in
    walked_more (λ k. slice_index_or c.args.from.now k []) (λ j. walked shape steps (c.args.start + j * get_or c.args.steps.now 0 0)) c.args.to.now c.loop-i.to _ c.loop-i.i c.loop-i.invariant c.in_ok-push_strings.ensures

pub returns : goal.returns
returns t c =
    let dims : 0 < length c.args.extents.now = search rules in
    let done : c.loop-i.i ≡ get_or c.args.extents.now 0 0 = omega arith in
    c.loop-i.invariant
    ∙ ap (λ l. c.args.to.now ++ map (λ k. slice_index_or c.args.from.now k []) l)
    (ap (λ n. flat_map (λ j. walked (slice_range c.args.extents.now 1 (length c.args.extents.now)) (slice_range c.args.steps.now 1 (length c.args.steps.now)) (c.args.start + j * get_or c.args.steps.now 0 0)) (range_with_len 0 n)) done
    ∙ walked-rows c.args.extents.now c.args.steps.now c.args.start dims c.requires.same_length)
