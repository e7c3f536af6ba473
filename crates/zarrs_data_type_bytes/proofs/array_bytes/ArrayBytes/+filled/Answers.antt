use Rattle.std.proofs.Common.{◌≡◌, true, ap, ◌∙◌, rules}
use Rattle.std.specs.Prelude.{is_some}
use Rattle.zarrs_data_type_bytes.specs.ArrayData.{fixed}
use Rattle.zarrs_data_type_kinds.specs.Kind.{kind, element_size}
use Rattle.zarrs_data_type_bytes.proofs.Made.{IsFilled-repeat}
use Rattle.zarrs_data_type_bytes.proofs.array_bytes.ArrayBytes.+filled.Goals as goal

pub returns-in_ok-repeated-in_default : goal.returns-in_ok-repeated-in_default
returns-in_ok-repeated-in_default t c =
    let there : is_some (element_size (kind c.args.data_type.now)) ≡ true = search rules in
    rw (c.new_flen.ensures ∙ ap fixed c.in_ok-repeated-in_default.ensures)
    (IsFilled-repeat c.args.data_type.now c.args.fill.now c.args.count there c.requires.filled)
