use Rattle.std.proofs.Common.{◌<◌, length, map, arith}
use Rattle.std.proofs.lemmas.List.{get_or_read, length-map}
use Rattle.zarrs_chunk_grid.specs.Configurations.{rectangular, sizes_view}
use Rattle.zarrs_chunk_grid.proofs.ConfigurationLemmas.{taken_from}
use Rattle.zarrs_chunk_grid.proofs.SizesLemmas.{counts_from, fill_from, fill_not, false_from_not}
use Rattle.zarrs_chunk_grid.proofs.rectangular.RectangularChunkGrid.new.Goals as goal

pub returns-in_default-clause-refused : goal.returns-in_default-clause-refused
returns-in_default-clause-refused c =
    let same = c.in_ok-check_length.ensures.ok in
    let k = c.loop-dimension.dimension in
    let within : k < length c.args.sizes.items = omega arith in
    let in_shape : k < length c.args.array_shape.items = omega arith in
    let extent_is = get_or_read c.args.array_shape.items k c.index-in-loop-dimension.result.now in_shape c.index-in-loop-dimension.ensures 0 in
    let not = false_from_not _ (rw extent_is at c.in_default.ensures) in
    (omega (arith, length-map c.args.sizes.items sizes_view), fill_not c.args.sizes.items c.args.array_shape.items k c.index.result.now (omega arith) within c.index.ensures not)

pub returns-clause-counts : goal.returns-clause-counts
returns-clause-counts c =
    let same = c.in_ok-check_length.ensures.ok in
    counts_from c.args.sizes.items c.args.array_shape.items c.loop-dimension.grid_shape.items (omega arith) (omega (arith, c.loop-dimension.invariant.long))
    (λ k d h. c.loop-dimension.invariant.counted k d (omega arith))

pub returns-clause-taken : goal.returns-clause-taken
returns-clause-taken c =
    let same = c.in_ok-check_length.ensures.ok in
    taken_from (rectangular (map sizes_view c.args.sizes.items)) c.args.array_shape.items
    (omega (arith, length-map c.args.sizes.items sizes_view))
    (fill_from c.args.sizes.items c.args.array_shape.items (omega arith) (λ k d h. c.loop-dimension.invariant.filled k d (omega arith)))

pub invariant_of-result-clause-filled : goal.invariant_of-result-clause-filled
invariant_of-result-clause-filled c =
    let same = c.in_ok-check_length.ensures.ok in
    fill_from c.args.sizes.items c.args.array_shape.items (omega arith) (λ k d h. c.loop-dimension.invariant.filled k d (omega arith))

pub invariant_of-result-clause-counted : goal.invariant_of-result-clause-counted
invariant_of-result-clause-counted c =
    let same = c.in_ok-check_length.ensures.ok in
    counts_from c.args.sizes.items c.args.array_shape.items c.loop-dimension.grid_shape.items (omega arith) (omega (arith, c.loop-dimension.invariant.long))
    (λ k d h. c.loop-dimension.invariant.counted k d (omega arith))

pub push_reserved-requires : goal.push_reserved-requires
push_reserved-requires c =
    let l = c.loop-dimension in
    omega (arith, l.grid_shape.ok.0, l.invariant.long, l.invariant.room, c.loop-dimension-test.true, c.len-dimension-end.ensures)
