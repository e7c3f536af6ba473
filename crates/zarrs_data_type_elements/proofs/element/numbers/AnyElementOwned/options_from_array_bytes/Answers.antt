use Rattle.std.proofs.Common.{sym, ◌∙◌}
use Rattle.zarrs_data_type_kinds.specs.Kind.{kind}
use Rattle.zarrs_data_type_elements.proofs.OptionNumbers.{options-served}
use Rattle.zarrs_data_type_elements.proofs.element.numbers.AnyElementOwned.options_from_array_bytes.Goals as goal

pub number_options-requires : goal.number_options-requires
number_options-requires g c =
    options-served (kind c.args.data_type.now) g.T.Number.number_kind g.T.Bytes.NumberBytes.size (sym c.is_option_of.ensures ∙ c.in_ok-check_served.ensures.served) g.met.T.Number.number_cells.0 g.met.T.Number.number_cells.1
