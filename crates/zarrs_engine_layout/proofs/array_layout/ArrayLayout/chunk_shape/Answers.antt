use Rattle.std.proofs.Common.{◌∙◌, sym, arith}
use Rattle.zarrs_chunk_grid.specs.Grids.{extent_along}
use Rattle.zarrs_chunk_grid.proofs.Walks.{along_more, extent_is}
use Rattle.zarrs_chunk_grid.proofs.Chunks.{along_there, no_box, shape_whole}
use Rattle.zarrs_engine_layout.specs.Layouts.{layout_meaning}
use Rattle.zarrs_engine_layout.proofs.Chunks.{wrong_length}
use Rattle.zarrs_engine_layout.proofs.ChunkParts.{chunk_accepted, chunk_refused}
use Rattle.zarrs_engine_layout.proofs.array_layout.ArrayLayout.chunk_shape.Goals as goal

pub returns-then-chunk_indices-dimensionality : goal.returns-then-chunk_indices-dimensionality
returns-then-chunk_indices-dimensionality g c =
    let wrong = wrong_length (layout_meaning c.args.self.now) c.args.chunk_indices.now (λ same. c.if-chunk_indices-dimensionality.true (same ∙ sym c.dimensionality.ensures)) in
    record { answer = tt; accepted = tt; refused = chunk_refused (layout_meaning c.args.self.now) c.args.chunk_indices.now _ wrong c.invalid_indices.ensures }

pub returns-in_default : goal.returns-in_default
returns-in_default g c =
    let grid = g.G.ChunkGridTraits.grid c.args.self.now.grid in
    let none = no_box grid c.args.chunk_indices.now c.loop-dimension.dimension (omega arith) c.in_default.ensures.none in
    record { answer = tt; accepted = tt; refused = chunk_refused (layout_meaning c.args.self.now) c.args.chunk_indices.now _ none c.invalid_indices-in_default.ensures }

pub loop-dimension-preserved : goal.loop-dimension-preserved
loop-dimension-preserved g c =
    let interval = rw (← c.get.ensures.value) at c.in-Some.ensures.some in
    rw c.in_ok-push.ensures.ok (along_more _ _ _ _ _ _ c.loop-dimension.invariant interval.numbered (extent_is (g.G.ChunkGridTraits.grid c.args.self.now.grid) c.args.chunk_indices.now c.loop-dimension.dimension _ _ interval))

pub returns : goal.returns
returns g c =
    let grid = g.G.ChunkGridTraits.grid c.args.self.now.grid in
    let index = c.args.chunk_indices.now in
    let has = along_there grid index _ c.loop-dimension.dimension (omega arith) (extent_along grid index) (omega arith) c.loop-dimension.invariant in
    record {
      answer = shape_whole grid index _ c.loop-dimension.dimension (omega arith) c.loop-dimension.invariant;
      accepted = chunk_accepted (layout_meaning c.args.self.now) index has;
      refused = tt;
    }
