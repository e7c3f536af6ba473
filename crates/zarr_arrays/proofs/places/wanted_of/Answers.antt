use Rattle.std.proofs.Common.{◌≡◌, ℕ, List, subst, ap, ◌∙◌}
use Rattle.std.specs.Prelude.{IfSome}
use Rattle.zarrs_subset.specs.Regions.{box_of, overlap_of, seen_from}
use Rattle.zarrs_chunk_grid.specs.Grids.{box_at}
use Rattle.zarrs_engine_calls.specs.ChunkBoxes.{chunk_part}
use Rattle.zarrs.specs.Arrays.{layout_of_array}
use Rattle.zarr_arrays.specs.Wanted.{HasCells}
use Rattle.zarr_arrays.proofs.WantedLemmas.{found_serves}
use Rattle.zarr_arrays.proofs.places.wanted_of.Goals as goal

pub returns : goal.returns
returns c =
    let layout = layout_of_array c.args.array.now in
    let region = box_of c.args.region.now in
    let here = box_of c.in_ok-chunk.chunk in
    let part = box_of c.in_ok-part.part in
    let is_part : part ≡ chunk_part region here =
    c.in_ok-part.ensures.value ∙ ap (λ b. seen_from b c.start.result.now) c.in_ok-shared.ensures.value
    ∙ ap (seen_from (overlap_of region here)) c.start.ensures in
    let is : here ≡ box_at layout.grid c.args.indices.now = c.in_ok-chunk.ensures.answer in
    let has = subst (λ (s : List ℕ). IfSome c.in_ok-part_places.field-0 (HasCells s c.in-Some.cell part)) c.shape.ensures c.in_ok-part_places.ensures in
    found_serves layout region c.args.indices.now c.in-Some.cell c.in_ok-part_places.field-0 here part is is_part c.args.region.now.same_length c.in_ok-chunk.chunk.same_length
    c.in_ok-shared.ensures.dimensions c.in-Some.ensures has
