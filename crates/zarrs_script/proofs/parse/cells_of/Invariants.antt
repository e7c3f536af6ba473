use Rattle.std.proofs.Common.{◌≡◌, ◌==◌, length, drop}
use Rattle.std.specs.List.{slice_split}
use Rattle.zarrs_script.specs.Words.{each_of}
use Rattle.zarrs_script.specs.CellTexts.{cell_of, joined_cells}
use Rattle.zarrs_script.proofs.Lists.{with_cells}
use Rattle.zarrs_script.proofs.parse.cells_of.Given as goal

abbrev pub invariant-loop-item : goal.invariant-loop-item
invariant-loop-item l =
    let parts = slice_split (λ b. b == 44) l.fn.word in
    with_cells l.cells.items (each_of (cell_of l.cell_type) (drop (length l.yielded) parts)) ≡ joined_cells (each_of (cell_of l.cell_type) parts)
