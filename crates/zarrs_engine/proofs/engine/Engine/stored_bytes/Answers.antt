use Rattle.std.proofs.Common.{◌∙◌}
use Rattle.zarrs_engine.proofs.engine.Engine.stored_bytes.Goals as goal

pub stored_at-requires-clause-long : goal.stored_at-requires-clause-long
stored_at-requires-clause-long g c = c.if-chunk_indices-dimensionality.false ∙ c.dimensionality.ensures
