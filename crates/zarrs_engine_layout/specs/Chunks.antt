-- The chunk that a call is about.
use Rattle.std.specs.Prelude.{◌≡◌, ℕ, true, List}
use Rattle.zarrs_subset.specs.Regions.{box_of}
use Rattle.zarrs_chunk_grid.specs.Grids.{box_at, has_box}
use Rattle.zarrs_engine_calls.specs.Layout.{Layout}
use Rattle.zarrs_engine_layout.specs.declared.array_layout.Chunk.{Chunk}

-- there is a chunk of these indices, and its key and its box are these
pub record IsChunk (layout : Layout) (chunk : Chunk) : Type 0 where
  pub boxed : has_box layout.grid chunk.indices.now ≡ true
  pub key : chunk.key ≡ layout.key chunk.indices.now
  pub region : box_of chunk.region ≡ box_at layout.grid chunk.indices.now

-- it is the chunk of these indices
pub record IsChunkAt (layout : Layout) (index : List ℕ) (made : Chunk) : Type 0 where
  pub chunk : IsChunk layout made
  pub indices : made.indices.now ≡ index
