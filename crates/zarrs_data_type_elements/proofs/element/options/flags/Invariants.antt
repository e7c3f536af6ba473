use Rattle.std.proofs.Common.{◌≡◌, take, map}
use Rattle.std.specs.Prelude.{is_some}
use Rattle.std.specs.Int.{from_bool}
use Rattle.zarrs_data_type_elements.proofs.element.options.flags.Given as goal

abbrev pub invariant-loop-element : goal.invariant-loop-element
invariant-loop-element g l = l.mask.items ≡ map (λ e. from_bool (is_some e.now)) (take l.element-index l.elements)
