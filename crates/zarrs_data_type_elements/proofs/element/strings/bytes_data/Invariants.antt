use Rattle.std.proofs.Common.{◌≡◌, take, map}
use Rattle.zarrs_data_type_elements.proofs.element.strings.bytes_data.Given as goal

abbrev pub invariant-loop-list : goal.invariant-loop-list
invariant-loop-list g l = l.strings ≡ map g.S.AsSlice.items (take l.list-index l.lists)
