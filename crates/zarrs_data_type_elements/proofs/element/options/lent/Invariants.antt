use Rattle.std.proofs.Common.{◌≡◌, take, map}
use Rattle.zarrs_data_type_elements.proofs.element.options.lent.Given as goal

abbrev pub invariant-loop-element : goal.invariant-loop-element
invariant-loop-element g l = map (λ e. e.now) l.lent.items ≡ take l.element-index l.elements
