use Rattle.std.proofs.Common.{◌≡◌, ◌++◌, drop, map}
use Rattle.std.specs.Vec.Iter.{into_iter_items}
use Rattle.zarrs_data_type_bytes.specs.Present.{spread_cells}
use Rattle.zarrs_data_type_elements.specs.Elements.{option_cell}
use Rattle.zarrs_data_type_elements.proofs.element.options.spread_values.Given as goal

abbrev pub invariant-loop-flag : goal.invariant-loop-flag
invariant-loop-flag g l =
    map (option_cell g.T.Element.cell) l.elements.items ++ spread_cells (drop l.flag-index l.mask) (map g.T.Element.cell (into_iter_items l.rest))
    ≡ spread_cells l.mask (map g.T.Element.cell l.fn.values.items)
