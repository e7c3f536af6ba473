use Rattle.std.proofs.Common.{refl}
use Rattle.zarrs_chunk_grid.proofs.ConfigurationLemmas.{own_counts, own_taken}
use Rattle.zarrs_chunk_grid.proofs.laws.grid_of_its_configuration.Goals as goal

pub returns : goal.returns
returns c = record { grid = refl; counts = own_counts c.args._grid.now; taken = own_taken c.args._grid.now }
