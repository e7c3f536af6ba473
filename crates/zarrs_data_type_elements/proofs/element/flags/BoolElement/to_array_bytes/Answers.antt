use Rattle.std.proofs.Common.{sym, ◌∙◌}
use Rattle.zarrs_data_type_kinds.specs.Kind.{kind}
use Rattle.zarrs_data_type_kinds.specs.Kind as type
use Rattle.zarrs_data_type_elements.proofs.FlagCells.{flags-made}
use Rattle.zarrs_data_type_elements.proofs.StringCells.{kind_is}
use Rattle.zarrs_data_type_elements.proofs.element.flags.BoolElement.to_array_bytes.Goals as goal

pub returns-clause-cells : goal.returns-clause-cells
returns-clause-cells c =
    let k = kind c.args.data_type.now in
    flags-made k c.args.elements.now c.in_ok-bytes.bytes.items (kind_is k type.bool (sym c.serves.ensures ∙ c.in_ok-check_served.ensures.served)) c.in_ok-bytes.ensures
