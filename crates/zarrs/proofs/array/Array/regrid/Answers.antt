use Rattle.std.proofs.Common.{◌∙◌, sym}
use Rattle.zarrs_metadata.specs.Versions.{metadata_view}
use Rattle.zarrs_chunk_grid.specs.GridView.{configuration_of, array_extents_of}
use Rattle.zarrs_options.specs.Given.{grid_given}
use Rattle.zarrs_creation.proofs.Grids.{is_regridded, grid_dimensions_are}
use Rattle.zarrs.specs.Agreement.{meaning_of}
use Rattle.zarrs.proofs.Layouts.{parts_are}
use Rattle.zarrs.proofs.Regridded.{agrees_after, cells_after, decodes_after}
use Rattle.zarrs.proofs.array.Array.regrid.Goals as goal

pub set_chunk_grid-requires : goal.set_chunk_grid-requires
set_chunk_grid-requires g c =
    let old = c.args.self.now in
    let grid = c.in_ok-grid.grid in
    let parts = meaning_of old.engine in
    let cut = is_regridded (metadata_view old.metadata) (metadata_view c.regrid.new.metadata) parts c.args.shape.items (grid_given c.args.chunk_grid_metadata.now) (configuration_of grid) (parts_are old) c.in_ok-grid.ensures.regridded c.in_ok-grid.ensures.grid in
    grid_dimensions_are (configuration_of grid) (array_extents_of grid) ∙ cut.dimensions ∙ sym (grid_dimensions_are parts.grid parts.shape)

pub invariant_of-self-2 : goal.invariant_of-self-2
invariant_of-self-2 g c =
    let old = c.args.self.now in
    let grid = c.in_ok-grid.grid in
    let cut = is_regridded (metadata_view old.metadata) (metadata_view c.regrid.new.metadata) (meaning_of old.engine) c.args.shape.items (grid_given c.args.chunk_grid_metadata.now) (configuration_of grid) (parts_are old) c.in_ok-grid.ensures.regridded c.in_ok-grid.ensures.grid in
    record {
      agrees = agrees_after grid old.engine c.set_chunk_grid.new.self (metadata_view old.metadata) c.regrid.new.metadata c.args.shape.items c.set_chunk_grid.ensures cut c.in_ok-grid.ensures.shape;
    }

pub returns-clause-content : goal.returns-clause-content
returns-clause-content g c = cells_after c.in_ok-grid.grid c.args.self.now.engine c.set_chunk_grid.new.self c.set_chunk_grid.ensures

pub returns-clause-decodes : goal.returns-clause-decodes
returns-clause-decodes g c = decodes_after c.in_ok-grid.grid c.args.self.now.engine c.set_chunk_grid.new.self c.set_chunk_grid.ensures

pub returns-in_err-grid-clause-decodes : goal.returns-in_err-grid-clause-decodes
returns-in_err-grid-clause-decodes g c = λ state each. each
