use Rattle.std.proofs.Common.{sym, ◌∙◌}
use Rattle.zarrs_data_type_kinds.specs.Kind.{kind}
use Rattle.zarrs_data_type_elements.proofs.OptionNumbers.{options-served}
use Rattle.zarrs_data_type_elements.proofs.element.numbers.AnyElement.options_to_array_bytes.Goals as goal

pub number_option_data-requires : goal.number_option_data-requires
number_option_data-requires g c =
    options-served (kind c.args.data_type.now) g.T.Number.number_kind g.T.Bytes.NumberBytes.size (sym c.is_option_of.ensures ∙ c.in_ok-check_served.ensures.served) g.met.T.Number.number_cells.0 g.met.T.Number.number_cells.1
