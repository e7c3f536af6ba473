use Rattle.std.proofs.Common.{◌≡◌, take, map}
use Rattle.zarrs_data_type_elements.proofs.element.strings.lists_of.Given as goal

abbrev pub invariant-loop-index : goal.invariant-loop-index
invariant-loop-index l = map (λ b. b.items) l.lists.items ≡ take l.index l.strings
