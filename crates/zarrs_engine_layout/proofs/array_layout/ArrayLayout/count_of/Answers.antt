use Rattle.std.proofs.Common.{◌∙◌, sym}
use Rattle.zarrs_data_type_kinds.proofs.Sizes.{element_size-positive}
use Rattle.zarrs_engine_layout.proofs.array_layout.ArrayLayout.count_of.Goals as goal

pub nonzero_div-result : goal.nonzero_div-result
nonzero_div-result g c = element_size-positive c.args.self.now.cell_type.data_type c.in-Some.size (sym c.element_size.ensures ∙ c.in-Some.is)
