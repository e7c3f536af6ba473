use Rattle.std.proofs.Common.{◌∙◌, ◌<◌, ◌≤◌, ◌+◌, length, below_more, refl, sym, arith}
use Rattle.std.specs.Prelude.{slice_index}
use Rattle.std.proofs.lemmas.Bool.{false≢true}
use Rattle.zarrs_subset.specs.Regions.{box_of}
use Rattle.zarrs_chunk_grid.proofs.Chunks.{box_is_there, no_box}
use Rattle.zarrs_engine_layout.proofs.ChunkShares.{interval_extent, interval_fits, interval_start, lies_whole}
use Rattle.zarrs_engine_layout.proofs.shared.covers_chunk.Goals as goal
use Rattle.zarrs_engine_layout.proofs.shared.covers_chunk.Goals.{then-chunk-range-via-then-chunk-range, then-chunk-range-via-else-chunk-range+then-range-chunk}

pub chunk_interval-requires : goal.chunk_interval-requires
chunk_interval-requires g c =
    let grid = g.G.ChunkGridTraits.grid c.args.grid.now in
    let index = c.args.chunk_indices.now in
    let region = box_of c.args.region.now in
    let d = c.loop-dimension.dimension in
    let long = (box_is_there grid index c.requires.boxed).long in
    omega arith

pub returns-in_default : goal.returns-in_default
returns-in_default g c =
    let grid = g.G.ChunkGridTraits.grid c.args.grid.now in
    let index = c.args.chunk_indices.now in
    let region = box_of c.args.region.now in
    let d = c.loop-dimension.dimension in
    let long = (box_is_there grid index c.requires.boxed).long in
    let none = no_box grid index d (omega arith) c.in_default.ensures.none in
    absurd (false≢true (sym none ∙ c.requires.boxed))

pub range-range-requires : goal.range-range-requires
range-range-requires g c =
    let grid = g.G.ChunkGridTraits.grid c.args.grid.now in
    let index = c.args.chunk_indices.now in
    let region = box_of c.args.region.now in
    let d = c.loop-dimension.dimension in
    let long = (box_is_there grid index c.requires.boxed).long in
    omega (arith, c.requires.dimensions)

pub overflow_add-chunk : goal.overflow_add-chunk
overflow_add-chunk g c =
    let grid = g.G.ChunkGridTraits.grid c.args.grid.now in
    let index = c.args.chunk_indices.now in
    let region = box_of c.args.region.now in
    let d = c.loop-dimension.dimension in
    let long = (box_is_there grid index c.requires.boxed).long in
    let fits = interval_fits grid index (g.met.G.ChunkGridTraits.lawful c.args.grid.now) d _ _ (omega arith) c.in-Some.ensures.some in
    omega (arith, c.get.ensures.value)

pub returns-then-chunk-range : goal.returns-then-chunk-range
returns-then-chunk-range g c = (
  (λ no. absurd (false≢true no)),
  (λ lies.
      let grid = g.G.ChunkGridTraits.grid c.args.grid.now in
      let index = c.args.chunk_indices.now in
      let region = box_of c.args.region.now in
      let d = c.loop-dimension.dimension in
      let long = (box_is_there grid index c.requires.boxed).long in
      let below : d < grid.dimensions = omega arith in
      let start = interval_start grid index d _ _ below c.in-Some.ensures.some in
      let extent = interval_extent grid index d _ _ below c.in-Some.ensures.some in
      let inside : d < length region.start = omega (arith, c.requires.dimensions) in
      let first = lies.starts d inside in
      let last = lies.ends d inside in
      absurd (elim c.then-chunk-range.branch [
        | then-chunk-range-via-then-chunk-range w ↦ omega arith
        | then-chunk-range-via-else-chunk-range+then-range-chunk w ↦ omega (arith, w.get.ensures.value)
      ])),
)

pub loop-dimension-preserved : goal.loop-dimension-preserved
loop-dimension-preserved g c =
    let grid = g.G.ChunkGridTraits.grid c.args.grid.now in
    let index = c.args.chunk_indices.now in
    let region = box_of c.args.region.now in
    let d = c.loop-dimension.dimension in
    let long = (box_is_there grid index c.requires.boxed).long in
    let below : d < grid.dimensions = omega arith in
    let start = interval_start grid index d _ _ below c.in-Some.ensures.some in
    let extent = interval_extent grid index d _ _ below c.in-Some.ensures.some in
    let first : slice_index region.start d ≤ c.in-Some.chunk.start = omega arith in
    let last : c.in-Some.chunk.start + c.get.result ≤ slice_index region.start d + slice_index region.shape d = omega arith in
    below_more _ _ c.loop-dimension.invariant (omega arith, omega (arith, c.get.ensures.value))

pub returns : goal.returns
returns g c =
    let grid = g.G.ChunkGridTraits.grid c.args.grid.now in
    let index = c.args.chunk_indices.now in
    let region = box_of c.args.region.now in
    let d = c.loop-dimension.dimension in
    let long = (box_is_there grid index c.requires.boxed).long in
    ((λ yes. lies_whole grid index region d (omega arith) c.requires.dimensions c.loop-dimension.invariant), (λ lies. refl))
