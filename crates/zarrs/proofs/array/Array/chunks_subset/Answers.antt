use Rattle.std.proofs.Common.{◌≡◌, subst}
use Rattle.zarrs_subset.specs.Regions.{Box, box_of}
use Rattle.zarrs_chunk_grid.specs.Grids.{chunks_box}
use Rattle.zarrs.specs.Arrays.{layout_of_array}
use Rattle.zarrs.specs.Queries.{Answers, chunks_refusal}
use Rattle.zarrs.proofs.array.Array.chunks_subset.Goals as goal

pub returns : goal.returns
returns g c =
    let layout = layout_of_array c.args.self.now in
    subst (λ (b : Box). Answers (chunks_refusal layout b) (λ region. box_of region ≡ chunks_box layout.grid b) c.range_subset.result) c.in_ok-chunks.ensures c.range_subset.ensures
