use Rattle.std.proofs.Common.{ap, ◌∙◌, ◌≡◌, arith}
use Rattle.std.specs.Prelude.{unwrap_or}
use Rattle.zarrs_data_type.specs.Kind.{kind, cell_size}
use Rattle.zarrs_data_type_kinds.proofs.Sizes.{cell_size-positive}
use Rattle.zarrs_engine_layout.specs.Layouts.{layout_meaning}
use Rattle.zarrs_engine_calls.proofs.RefusalLemmas.{large_count, large_size, small_size, cell_size_is}
use Rattle.zarrs_engine_layout.proofs.array_layout.ArrayLayout.shape_count.Goals as goal

pub returns-in_default-clause-large : goal.returns-in_default-clause-large
returns-in_default-clause-large g c =
    let layout = layout_meaning c.args.self.now in
    large_count layout c.args.shape.now (cell_size-positive c.args.self.now.cell_type.data_type) c.in_default.ensures

pub returns-in-Some-checked_mul-clause-small : goal.returns-in-Some-checked_mul-clause-small
returns-in-Some-checked_mul-clause-small g c =
    let layout = layout_meaning c.args.self.now in
    let size : c.unwrap_or-size.result ≡ cell_size (kind c.args.self.now.cell_type.data_type) = c.unwrap_or-size.ensures ∙ ap (λ o. unwrap_or o 1) c.fixed_size.ensures ∙ cell_size_is (kind c.args.self.now.cell_type.data_type) in
    small_size layout c.args.shape.now c.in-Some.count c.unwrap_or-size.result c.in-Some.ensures size (omega (arith, c.in-Some-checked_mul.ensures))

pub returns-in-None-clause-large : goal.returns-in-None-clause-large
returns-in-None-clause-large g c =
    let layout = layout_meaning c.args.self.now in
    let size : c.unwrap_or-size.result ≡ cell_size (kind c.args.self.now.cell_type.data_type) = c.unwrap_or-size.ensures ∙ ap (λ o. unwrap_or o 1) c.fixed_size.ensures ∙ cell_size_is (kind c.args.self.now.cell_type.data_type) in
    large_size layout c.args.shape.now c.in-Some.count c.unwrap_or-size.result c.in-Some.ensures size (omega (arith, c.in-None.ensures))
