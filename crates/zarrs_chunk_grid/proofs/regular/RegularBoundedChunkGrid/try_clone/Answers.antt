use Rattle.std.proofs.Common.{◌≡◌, ap, ◌∙◌}
use Rattle.zarrs_metadata_parts.specs.Lists.{sizes_of}
use Rattle.zarrs_chunk_grid.specs.Configurations.{bounded, regular, grid_of}
use Rattle.zarrs_chunk_grid.proofs.regular.RegularBoundedChunkGrid.try_clone.Goals as goal

pub returns-clause-configuration : goal.returns-clause-configuration
returns-clause-configuration c =
    let own : regular (sizes_of c.in_ok-whole.whole.chunk_shape.items) ≡ regular (sizes_of c.args.self.now.whole.chunk_shape.items) = c.in_ok-whole.ensures.configuration in
    let same : sizes_of c.in_ok-whole.whole.chunk_shape.items ≡ sizes_of c.args.self.now.whole.chunk_shape.items = cc in
    ap bounded same

pub returns-clause-grid : goal.returns-clause-grid
returns-clause-grid c =
    let grid = c.args.self.now.whole in
    let own : regular (sizes_of c.in_ok-whole.whole.chunk_shape.items) ≡ regular (sizes_of grid.chunk_shape.items) = c.in_ok-whole.ensures.configuration in
    let same : sizes_of c.in_ok-whole.whole.chunk_shape.items ≡ sizes_of grid.chunk_shape.items = cc in
    ap (λ sizes. grid_of (bounded sizes) c.in_ok-whole.whole.array_shape.items) same
    ∙ ap (λ shape. grid_of (bounded (sizes_of grid.chunk_shape.items)) shape) c.in_ok-whole.ensures.shape
