use Rattle.std.proofs.Common.{◌∙◌, rules, arith, ◌≡◌, ◌<◌, length, sym, SomeIndex, slice_index}
use Rattle.std.proofs.lemmas.Bool.{iff_false}
use Rattle.zarrs_subset.proofs.Overlaps.{EndsFit-below}
use Rattle.zarrs_chunk_grid.specs.Grids.{HasIndices}
use Rattle.zarrs_chunk_grid.proofs.Walks.{pairs_more}
use Rattle.zarrs_chunk_grid.proofs.FilledRanges.{empty_is_filled, filled_at, filled_in_order, filled_is, filled_is_box, filled_range}
use Rattle.zarrs_chunk_grid.proofs.traits.ChunkGridTraits.chunks_subset.Goals as goal

pub returns-then-is_empty-clause-value : goal.returns-then-is_empty-clause-value
returns-then-is_empty-clause-value g c =
    let grid = g.Self.ChunkGridTraits.grid c.args.self.now in
    let range = g.R.ArraySubsetTraits.region c.args.chunks.now in
    let empty : SomeIndex range.shape (λ k. slice_index range.shape k ≡ 0) = search rules in
    let count : c.dimensionality.result ≡ length range.start = search rules in
    rw (c.in_ok-new_empty.ensures, count, g.met.R.ArraySubsetTraits.is_long c.args.chunks.now) (empty_is_filled grid range empty.0 empty.1 empty.2)

pub overflow_sub-filled : goal.overflow_sub-filled
overflow_sub-filled g c =
    let same = c.in_ok-check_length.ensures.ok in
    let lawful = g.met.Self.ChunkGridTraits.lawful c.args.self.now c.loop-dimension.dimension (omega arith) in
    filled_in_order _ lawful _ _ _ _ (omega arith) c.in-Some.ensures.some

pub new-requires-clause-ends_fit : goal.new-requires-clause-ends_fit
new-requires-clause-ends_fit g c =
    let same = c.in_ok-check_length.ensures.ok in
    let grid = g.Self.ChunkGridTraits.grid c.args.self.now in
    let range = g.R.ArraySubsetTraits.region c.args.chunks.now in
    let whole = g.met.R.ArraySubsetTraits.is_long c.args.chunks.now in
    let empty = iff_false c.is_empty.ensures c.if-is_empty.false in
    let some : HasIndices range = λ k below. (let here : slice_index range.shape k ≡ 0 → ⊥ = λ z. empty (k, below, z) in omega arith) in
    let fits = filled_is_box grid (g.met.Self.ChunkGridTraits.lawful c.args.self.now) range (omega arith) whole some _ _ c.loop-dimension.dimension (omega arith) (omega arith) c.loop-dimension.invariant.pairs in
    EndsFit-below _ _ (sym fits.same_length) fits.ends_fit

pub returns-clause-value : goal.returns-clause-value
returns-clause-value g c =
    let same = c.in_ok-check_length.ensures.ok in
    let grid = g.Self.ChunkGridTraits.grid c.args.self.now in
    let range = g.R.ArraySubsetTraits.region c.args.chunks.now in
    let whole = g.met.R.ArraySubsetTraits.is_long c.args.chunks.now in
    let empty = iff_false c.is_empty.ensures c.if-is_empty.false in
    let some : HasIndices range = λ k below. (let here : slice_index range.shape k ≡ 0 → ⊥ = λ z. empty (k, below, z) in omega arith) in
    rw c.new.ensures
    (filled_is grid (g.met.Self.ChunkGridTraits.lawful c.args.self.now) range (omega arith) whole some _ _ c.loop-dimension.dimension (omega arith) (omega arith) c.loop-dimension.invariant.pairs)

pub push_reserved-requires : goal.push_reserved-requires
push_reserved-requires g c =
    let l = c.loop-dimension in
    omega (arith, l.start.ok.0, l.invariant.pairs.start_long, l.invariant.start_room, c.loop-dimension-test.true)

pub push_reserved-requires-in-loop-dimension : goal.push_reserved-requires-in-loop-dimension
push_reserved-requires-in-loop-dimension g c =
    let l = c.loop-dimension in
    omega (arith, l.shape.ok.0, l.invariant.pairs.shape_long, l.invariant.shape_room, c.loop-dimension-test.true)

pub loop-dimension-preserved : goal.loop-dimension-preserved
loop-dimension-preserved g c =
    let grid = g.Self.ChunkGridTraits.grid c.args.self.now in
    let range = g.R.ArraySubsetTraits.region c.args.chunks.now in
    let filled = filled_at grid range c.loop-dimension.dimension c.range.result.start c.range.result.end c.in-Some.filled.start c.in-Some.filled.end c.range.ensures.start c.range.ensures.end c.in-Some.ensures.some in
    record {
      pairs = rw (c.push_reserved.ensures.items, c.push_reserved-in-loop-dimension.ensures.items) (pairs_more _ _ _ _ _ _ c.loop-dimension.invariant.pairs filled);
      start_room = c.push_reserved.ensures.capacity ∙ c.loop-dimension.invariant.start_room;
      shape_room = c.push_reserved-in-loop-dimension.ensures.capacity ∙ c.loop-dimension.invariant.shape_room;
    }

pub range_filled-requires-clause-some : goal.range_filled-requires-clause-some
range_filled-requires-clause-some g c =
    let same = c.in_ok-check_length.ensures.ok in
    let range = g.R.ArraySubsetTraits.region c.args.chunks.now in
    let k = c.loop-dimension.dimension in
    let whole = g.met.R.ArraySubsetTraits.is_long c.args.chunks.now in
    let empty = iff_false c.is_empty.ensures c.if-is_empty.false in
    let below : k < length range.shape = omega arith in
    let here : slice_index range.shape k ≡ 0 → ⊥ = λ z. empty (k, below, z) in
    omega (arith, here, c.range.ensures.start, c.range.ensures.end)

pub returns-clause-some : goal.returns-clause-some
returns-clause-some g c = λ some.
    let same = c.in_ok-check_length.ensures.ok in
    let grid = g.Self.ChunkGridTraits.grid c.args.self.now in
    let range = g.R.ArraySubsetTraits.region c.args.chunks.now in
    let whole = g.met.R.ArraySubsetTraits.is_long c.args.chunks.now in
    filled_range grid (g.met.Self.ChunkGridTraits.lawful c.args.self.now) range (omega arith) whole some _ _ c.loop-dimension.dimension (omega arith) (omega arith) c.loop-dimension.invariant.pairs
