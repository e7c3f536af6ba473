use Rattle.std.proofs.Common.{map}
use Rattle.std.specs.Prelude.{option_map}
use Rattle.zarrs_metadata_v3.specs.View.{name_view}
use Rattle.zarrs_options.specs.Given.{grid_given}
use Rattle.zarrs_builder.specs.Given.{type_given, fill_given}
use Rattle.zarrs_builder.specs.Builders.{builder_view}
use Rattle.zarrs_builder.proofs.Fields.{found_ok}
use Rattle.zarrs_builder.proofs.Order.{all_found}
use Rattle.zarrs_builder.proofs.builder.ArrayBuilder.fields.Goals as goal

pub returns-clause-made : goal.returns-clause-made
returns-clause-made c =
    rw (c.as_slice.ensures.value)
    (all_found (builder_view c.args.self.now) _ (found_ok c.args.self.now.shape (λ v. v.items) c.in_ok-found.field-0.now c.in_ok-found.ensures.made) _ (found_ok c.args.self.now.chunk_grid grid_given c.in_ok-found-2.field-0.now c.in_ok-found-2.ensures.made) _ (found_ok c.args.self.now.data_type type_given c.in_ok-found-3.field-0.now c.in_ok-found-3.ensures.made) _ (found_ok c.args.self.now.fill_value fill_given c.in_ok-found-4.field-0.now c.in_ok-found-4.ensures.made) _ (found_ok c.args.self.now.dimension_names (option_map (λ names. map name_view names.items)) c.in_ok-found-5.field-0.now c.in_ok-found-5.ensures.made) _ (found_ok c.args.self.now.subchunk_shape (option_map (λ v. v.items)) c.in_ok-found-6.field-0.now c.in_ok-found-6.ensures.made))
