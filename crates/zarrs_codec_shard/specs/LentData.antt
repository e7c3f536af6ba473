-- The shapes of a cut that lends them.
use Rattle.std.specs.Prelude.{ℕ, List}
use Rattle.zarrs_codec_shard.specs.declared.lent.LentSubchunks.{LentSubchunks}

-- the shape of the chunk that is cut, and that of its subchunks
abbrev pub lent_chunk_shape : LentSubchunks → List ℕ
lent_chunk_shape subchunks = subchunks.chunk_shape.now

abbrev pub lent_shape : LentSubchunks → List ℕ
lent_shape subchunks = subchunks.shape.now
