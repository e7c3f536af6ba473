use Rattle.std.proofs.Common.{take}
use Rattle.std.specs.List.{AllZip}
use Rattle.zarrs_builder.proofs.fill_value.ArrayBuilderFillValue.of_list.Given as goal

-- the values so far
abbrev pub invariant-loop-item : goal.invariant-loop-item
invariant-loop-item g l = AllZip g.T.Into.converts (take l.item-index l.items) l.values.items
