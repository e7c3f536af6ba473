use Rattle.zarrs_options.specs.Given.{grid_given}
use Rattle.zarrs_builder.proofs.Fields.{of_ok}
use Rattle.zarrs_builder.proofs.builder.ArrayBuilder.chunk_grid.Goals as goal

pub returns-clause-set : goal.returns-clause-set
returns-clause-set g c = record {
  grid = c.into-chunk_grid.result;
  is_given = c.into-chunk_grid.ensures;
  shape = of_ok c.from_slice.result (λ v. v.items) _ (rw c.array_shape.ensures.value at c.from_slice.ensures.items);
  chunk_grid = of_ok c.grid_field.result grid_given _ c.grid_field.ensures;
}
