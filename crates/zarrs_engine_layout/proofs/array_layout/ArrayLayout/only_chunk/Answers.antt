use Rattle.std.proofs.Common.{◌≡◌, ◌-◌, ◌<◌, ℕ, slice_index, arith}
use Rattle.std.proofs.lemmas.Bool.{iff_false}
use Rattle.std.proofs.lemmas.Grind.{replicate_next}
use Rattle.zarrs_subset.specs.Regions.{box_of}
use Rattle.zarrs_chunk_grid.proofs.Walks.{pairs_more}
use Rattle.zarrs_chunk_grid.proofs.MetChunks.{MetAt}
use Rattle.zarrs_engine_layout.specs.Layouts.{layout_meaning}
use Rattle.zarrs_engine_layout.proofs.OneChunk.{no_end_in_chunk, one_met_along, only_chunk_met}
use Rattle.zarrs_engine_layout.proofs.array_layout.ArrayLayout.only_chunk.Goals as goal

pub loop-dimension-preserved : goal.loop-dimension-preserved
loop-dimension-preserved g c =
    let grid = g.G.ChunkGridTraits.grid c.args.self.now.grid in
    let region = box_of c.args.region.now in
    let numbers = c.in-Some.numbers in
    let extent : c.range-range.result.end - c.range-range.result.start ≡ slice_index region.shape c.loop-dimension.dimension = omega arith in
    let one : numbers.amount ≡ 1 = omega arith in
    let is : MetAt grid region c.loop-dimension.dimension numbers.first numbers.amount = rw (extent, c.range-range.ensures.start) at c.in-Some.ensures.some in
    let met : MetAt grid region c.loop-dimension.dimension numbers.first 1 = rw one at is in
    rw (c.in_ok-push.ensures.ok, replicate_next {X = ℕ} c.loop-dimension.dimension 1) (pairs_more _ _ _ _ _ _ c.loop-dimension.invariant met)

pub returns-clause-some : goal.returns-clause-some
returns-clause-some g c =
    let layout = layout_meaning c.args.self.now in
    let region = c.args.region.now in
    let some = iff_false c.is_empty.ensures c.if-is_empty.false in
    only_chunk_met layout c.args.self.now.lawful (g.G.ChunkGridTraits.array_extents c.args.self.now.grid) (box_of region) region.same_length (omega arith) some _ c.loop-dimension.dimension (omega arith) c.loop-dimension.invariant

pub returns-in_default-clause-none : goal.returns-in_default-clause-none
returns-in_default-clause-none g c = λ index lies.
    let layout = layout_meaning c.args.self.now in
    let region = box_of c.args.region.now in
    let k = c.loop-dimension.dimension in
    let within : k < layout.grid.dimensions = omega arith in
    let extent : c.range-range.result.end - c.range-range.result.start ≡ slice_index region.shape k = omega arith in
    let past = rw (extent, c.range-range.ensures.start) at c.in_default.ensures.none in
    no_end_in_chunk layout c.args.self.now.lawful (g.G.ChunkGridTraits.array_extents c.args.self.now.grid) region index lies k within past

pub returns-then-numbers-ne1-clause-none : goal.returns-then-numbers-ne1-clause-none
returns-then-numbers-ne1-clause-none g c = λ index lies.
    let layout = layout_meaning c.args.self.now in
    let region = box_of c.args.region.now in
    let k = c.loop-dimension.dimension in
    let numbers = c.in-Some.numbers in
    let within : k < layout.grid.dimensions = omega arith in
    let extent : c.range-range.result.end - c.range-range.result.start ≡ slice_index region.shape k = omega arith in
    let is : MetAt layout.grid region k numbers.first numbers.amount = rw (extent, c.range-range.ensures.start) at c.in-Some.ensures.some in
    let one = one_met_along layout c.args.self.now.lawful (g.G.ChunkGridTraits.array_extents c.args.self.now.grid) region index lies k within numbers.first numbers.amount is in
    omega (arith, one)
