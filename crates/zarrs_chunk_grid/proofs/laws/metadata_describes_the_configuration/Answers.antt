use Rattle.zarrs_chunk_grid.proofs.MetadataLemmas.{said_back}
use Rattle.zarrs_chunk_grid.proofs.laws.metadata_describes_the_configuration.Goals as goal

pub returns : goal.returns
returns c = said_back c.args._grid.now
