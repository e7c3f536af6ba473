use Rattle.zarrs_subset.specs.Regions.{box_of}
use Rattle.zarrs_engine_layout.proofs.ChunkShares.{SharedBelow, moved_start, seen_start}
use Rattle.zarrs_engine_layout.proofs.shared.ChunkShare.find.Given as goal

abbrev pub invariant-loop-dimension : goal.invariant-loop-dimension
invariant-loop-dimension g l =
    let grid = g.G.ChunkGridTraits.grid l.grid in
    let index = l.chunk_indices in
    let region = box_of l.region in
    record {
      part : SharedBelow grid index region (seen_start grid index region) (box_of l.self.part) l.dimension;
      own : SharedBelow grid index region (moved_start grid index region (box_of l.own)) (box_of l.self.own) l.dimension;
    }
