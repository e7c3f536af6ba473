-- What a compaction leaves of a chunk whose subchunks hold their encoding.
use Rattle.std.specs.Prelude.{◌≡◌, ℕ, Bool, false, List, Some}
use Rattle.zarrs_chunk_grid.specs.Grids.{box_at}
use Rattle.zarrs_storage.specs.Store.{StoreState}
use Rattle.zarrs_data_type.specs.Cell.{Cell}
use Rattle.zarrs_codec_shard.specs.Sharded.{HoldsEncodedParts}
use Rattle.zarrs_codec_chain.specs.Chain.{ChainMeaning, IsLawfulChain}
use Rattle.zarrs_codec_chain.specs.ShardChains.{MakesShards, subchunks_by}
use Rattle.zarrs_engine_calls.specs.Compactions.{CompactsChunk}
use Rattle.zarrs_engine_calls.specs.Content.{decoded_cells, value_at}
use Rattle.zarrs_engine_calls.specs.Layout.{Layout}

-- If the present subchunks of a chunk hold the encoded bytes of their cells, none of them all fill, an accepted compaction
-- leaves the encoded bytes of the chunk's cells at its key.
abbrev pub CompactionsEncode : Type 0
CompactionsEncode =
    (layout : Layout) (inner : ChainMeaning) (at_start : Bool) (sub : List ℕ) → MakesShards layout.chain inner at_start sub → IsLawfulChain inner
    → (index encoded made : List ℕ) (cells : List Cell) (answer : Bool) (old new : StoreState)
    → value_at old (layout.key index) ≡ Some encoded
    → HoldsEncodedParts (subchunks_by inner layout.kind layout.fill sub) at_start layout.fill (box_at layout.grid index).shape sub encoded
    → decoded_cells layout (box_at layout.grid index) encoded ≡ Some cells
    → layout.chain.encoded false layout.kind layout.fill (box_at layout.grid index).shape cells ≡ Some made
    → CompactsChunk layout index answer old new → value_at new (layout.key index) ≡ Some made
