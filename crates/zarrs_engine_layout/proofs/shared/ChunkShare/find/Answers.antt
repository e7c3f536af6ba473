use Rattle.std.proofs.Common.{◌≡◌, ◌∙◌, ◌<◌, ◌+◌, ◌-◌, max, min, ap, refl, sym, arith}
use Rattle.std.specs.Prelude.{slice_index}
use Rattle.std.proofs.lemmas.Bool.{false≢true}
use Rattle.zarrs_subset.specs.Regions.{box_of}
use Rattle.zarrs_chunk_grid.specs.Grids.{box_at}
use Rattle.zarrs_chunk_grid.proofs.Chunks.{box_is_there, no_box}
use Rattle.zarrs_engine_layout.proofs.ChunkShares.{apart_along, below_none, below_set, interval_extent, interval_fits, interval_start, moved_along, moved_are, moved_start, pairs_of, seen_along, seen_are, seen_start}
use Rattle.zarrs_engine_layout.proofs.shared.ChunkShare.find.Goals as goal

pub loop-dimension-init : goal.loop-dimension-init
loop-dimension-init g c =
    let grid = g.G.ChunkGridTraits.grid c.args.grid.now in
    let index = c.args.chunk_indices.now in
    let region = box_of c.args.region.now in
    let long = (box_is_there grid index c.requires.boxed).long in
    let part = c.fit.new.self.part in
    let own = c.fit.new.self.own in
    record {
      part = below_none grid index region _ (box_of part) part.same_length (c.in_ok-fit.ensures.part ∙ long);
      own = below_none grid index region _ (box_of own) own.same_length (c.in_ok-fit.ensures.own ∙ long);
    }

pub chunk_interval-requires : goal.chunk_interval-requires
chunk_interval-requires g c =
    let grid = g.G.ChunkGridTraits.grid c.args.grid.now in
    let index = c.args.chunk_indices.now in
    let long = (box_is_there grid index c.requires.boxed).long in
    omega arith

pub returns-in_default-clause-none : goal.returns-in_default-clause-none
returns-in_default-clause-none g c =
    let grid = g.G.ChunkGridTraits.grid c.args.grid.now in
    let index = c.args.chunk_indices.now in
    let d = c.loop-dimension.dimension in
    let long = (box_is_there grid index c.requires.boxed).long in
    let none = no_box grid index d (omega arith) c.in_default.ensures.none in
    absurd (false≢true (sym none ∙ c.requires.boxed))

pub range-range-requires : goal.range-range-requires
range-range-requires g c =
    let grid = g.G.ChunkGridTraits.grid c.args.grid.now in
    let index = c.args.chunk_indices.now in
    let long = (box_is_there grid index c.requires.boxed).long in
    omega (arith, c.requires.dimensions)

pub overflow_add-chunk : goal.overflow_add-chunk
overflow_add-chunk g c =
    let grid = g.G.ChunkGridTraits.grid c.args.grid.now in
    let index = c.args.chunk_indices.now in
    let d = c.loop-dimension.dimension in
    let long = (box_is_there grid index c.requires.boxed).long in
    let fits = interval_fits grid index (g.met.G.ChunkGridTraits.lawful c.args.grid.now) d _ _ (omega arith) c.in-Some.ensures.some in
    omega (arith, c.get.ensures.value)

pub returns-then-end-first-clause-none : goal.returns-then-end-first-clause-none
returns-then-end-first-clause-none g c =
    let grid = g.G.ChunkGridTraits.grid c.args.grid.now in
    let index = c.args.chunk_indices.now in
    let region = box_of c.args.region.now in
    let d = c.loop-dimension.dimension in
    let long = (box_is_there grid index c.requires.boxed).long in
    let below : d < grid.dimensions = omega arith in
    let start = interval_start grid index d _ _ below c.in-Some.ensures.some in
    let extent = interval_extent grid index d _ _ below c.in-Some.ensures.some in
    apart_along grid index region c.args.region.now.same_length c.requires.dimensions d below (omega (arith, c.get.ensures.value))

pub loop-dimension-preserved : goal.loop-dimension-preserved
loop-dimension-preserved g c =
    let grid = g.G.ChunkGridTraits.grid c.args.grid.now in
    let index = c.args.chunk_indices.now in
    let region = box_of c.args.region.now in
    let own = box_of c.args.own.now in
    let d = c.loop-dimension.dimension in
    let long = (box_is_there grid index c.requires.boxed).long in
    let below : d < grid.dimensions = omega arith in
    let start = interval_start grid index d _ _ below c.in-Some.ensures.some in
    let extent = interval_extent grid index d _ _ below c.in-Some.ensures.some in
    let corner : slice_index c.start.result.now d ≡ slice_index own.start d = ap (λ l. slice_index l d) c.start.ensures in
    let region_end = c.range-range.result.end in
    let chunk_end = c.in-Some.chunk.start + c.get.result in
    let first = c.max-first.result in
    let end = c.min-end.result in
    let first_is : first ≡ max (slice_index region.start d) (slice_index (box_at grid index).start d) = omega arith in
    let end_is : end ≡ min region_end chunk_end = omega arith in
    let in_region : region_end ≡ slice_index region.start d + slice_index region.shape d = omega arith in
    let in_chunk : chunk_end ≡ slice_index (box_at grid index).start d + slice_index (box_at grid index).shape d = omega (arith, c.get.ensures.value) in
    let some : first < end = omega arith in
    let seen = seen_along grid index region d region_end chunk_end first end first_is end_is in_region in_chunk some c.in-Some.chunk.start start in
    let moved = moved_along grid index region d region_end chunk_end first end first_is end_is in_region in_chunk some own c.range-range.result.start (slice_index c.start.result.now d) (omega arith) corner in
    let i = c.loop-dimension.invariant in
    record {
      part =
          below_set grid index region (seen_start grid index region) (box_of c.loop-dimension.self.part) (box_of c.set_range.new.self) d (first - c.in-Some.chunk.start)
          (end - c.in-Some.chunk.start - (first - c.in-Some.chunk.start)) i.part below seen c.set_range.ensures.start c.set_range.ensures.shape;
      own =
          below_set grid index region (moved_start grid index region own) (box_of c.loop-dimension.self.own) (box_of c.set_range-in-loop-dimension.new.self) d
          (first - c.range-range.result.start + slice_index c.start.result.now d)
          (end - c.range-range.result.start + slice_index c.start.result.now d - (first - c.range-range.result.start + slice_index c.start.result.now d))
          i.own below moved c.set_range-in-loop-dimension.ensures.start c.set_range-in-loop-dimension.ensures.shape;
    }

pub returns-clause-part : goal.returns-clause-part
returns-clause-part g c =
    let grid = g.G.ChunkGridTraits.grid c.args.grid.now in
    let index = c.args.chunk_indices.now in
    let region = box_of c.args.region.now in
    let d = c.loop-dimension.dimension in
    let long = (box_is_there grid index c.requires.boxed).long in
    let all : d ≡ grid.dimensions = omega arith in
    let pairs = pairs_of grid index region (seen_start grid index region) _ d all c.loop-dimension.invariant.part in
    seen_are grid index region c.args.region.now.same_length c.requires.dimensions _ _ _ d all pairs (λ k below. refl)

pub returns-clause-own : goal.returns-clause-own
returns-clause-own g c =
    let grid = g.G.ChunkGridTraits.grid c.args.grid.now in
    let index = c.args.chunk_indices.now in
    let region = box_of c.args.region.now in
    let own = c.args.own.now in
    let d = c.loop-dimension.dimension in
    let long = (box_is_there grid index c.requires.boxed).long in
    let all : d ≡ grid.dimensions = omega arith in
    let pairs = pairs_of grid index region (moved_start grid index region (box_of own)) _ d all c.loop-dimension.invariant.own in
    moved_are grid index region c.args.region.now.same_length c.requires.dimensions _ _ _ d all pairs (box_of own) own.same_length c.requires.same_shape (λ k below. refl)
