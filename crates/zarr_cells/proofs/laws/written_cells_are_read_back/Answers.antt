use Rattle.zarr_cells.proofs.LawLemmas.{lines_back, raw_back}
use Rattle.zarr_cells.proofs.laws.written_cells_are_read_back.Goals as goal

pub returns-clause-raw : goal.returns-clause-raw
returns-clause-raw c = raw_back

pub returns-clause-lines : goal.returns-clause-lines
returns-clause-lines c = lines_back
