use Rattle.zarrs_script.proofs.CellBytes.{first_cell_is_value}
use Rattle.zarrs_script.proofs.parse.cell_of.Goals as goal

pub returns-clause-whole : goal.returns-clause-whole
returns-clause-whole c = first_cell_is_value c.args.cell_type c.args.word.now c.new-cell.result.items c.push_cell.new.cells.items c.new-cell.ensures.items c.in_ok-push_cell.ensures
