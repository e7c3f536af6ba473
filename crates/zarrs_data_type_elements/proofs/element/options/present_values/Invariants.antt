use Rattle.std.proofs.Common.{◌≡◌, take, map}
use Rattle.std.specs.List.{filter_map}
use Rattle.zarrs_data_type_elements.proofs.element.options.present_values.Given as goal

abbrev pub invariant-loop-element : goal.invariant-loop-element
invariant-loop-element g l = map (λ v. v.now) l.values.items ≡ filter_map (λ e. e.now) (take l.element-index l.elements)
