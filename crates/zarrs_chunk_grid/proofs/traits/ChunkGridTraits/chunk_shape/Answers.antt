use Rattle.std.proofs.Common.{arith}
use Rattle.std.proofs.lemmas.List.{map-append}
use Rattle.zarrs_subset.specs.Regions.{Box}
use Rattle.zarrs_chunk_grid.specs.Grids.{extent_along}
use Rattle.zarrs_chunk_grid.proofs.Walks.{along_more, extent_is}
use Rattle.zarrs_chunk_grid.proofs.Chunks.{no_box, no_chunk, some_chunk, along_there, shape_whole}
use Rattle.zarrs_chunk_grid.proofs.traits.ChunkGridTraits.chunk_shape.Goals as goal

pub returns-in_default-clause-shape : goal.returns-in_default-clause-shape
returns-in_default-clause-shape g c =
    let same = c.in_ok-check_length.ensures.ok in
    let grid = g.Self.ChunkGridTraits.grid c.args.self.now in
    let none = no_box grid c.args.indices.now c.loop-dimension.dimension (omega arith) c.in_default.ensures.none in
    no_chunk grid c.args.indices.now (λ (b : Box). b.shape) none

pub loop-dimension-preserved : goal.loop-dimension-preserved
loop-dimension-preserved g c =
    let interval = c.in-Some.ensures.some in
    rw (c.in_ok-push.ensures.items, map-append) (along_more _ _ _ _ _ _ c.loop-dimension.invariant interval.numbered (extent_is (g.Self.ChunkGridTraits.grid c.args.self.now) c.args.indices.now c.loop-dimension.dimension _ _ interval))

pub returns-clause-shape : goal.returns-clause-shape
returns-clause-shape g c =
    let same = c.in_ok-check_length.ensures.ok in
    let grid = g.Self.ChunkGridTraits.grid c.args.self.now in
    let there = along_there grid c.args.indices.now _ c.loop-dimension.dimension (omega arith) (extent_along grid c.args.indices.now) (omega arith) c.loop-dimension.invariant in
    some_chunk grid c.args.indices.now (λ (b : Box). b.shape) _ there
    (shape_whole grid c.args.indices.now _ c.loop-dimension.dimension (omega arith) c.loop-dimension.invariant)
