-- Writes of the parts of one chunk.
use Rattle.std.specs.Prelude.{◌≡◌, ℕ, List, Result}
use Rattle.std.specs.Borrow.{Fml, MutBor, RattleType, RestsIfErr}
use Rattle.zarrs_chunk_grid.specs.declared.traits.ChunkGridTraits.{Ghosts as GridMeaning}
use Rattle.zarrs_keys.specs.declared.traits.ChunkKeyEncodingTraits.{Ghosts as KeyMeaning}
use Rattle.zarrs_codec_chain.specs.declared.traits.ChainTraits.{Ghosts as ChainMeanings}
use Rattle.zarrs_engine_calls.specs.declared.error.ArrayError.{ArrayError}
use Rattle.zarrs_engine.specs.declared.engine.Engine.{Engine}
use Rattle.zarrs_engine.specs.contracts.engine.Engine.{the_row}
use Rattle.zarrs_engine.specs.declared.partial_encoder.ChunkPartialEncoder.{ChunkPartialEncoder}

module _ {G K C : Type 0} {g : GridMeaning G} {k : KeyMeaning K} {c : ChainMeanings C} where
  module _ {S : Type 0} where
    -- the engine that an encoder writes, the name of its loan, and the indices of its chunk
    abbrev pub engine_of : ChunkPartialEncoder S G K C g k c → Engine S G K C g k c
    engine_of encoder = encoder.engine.now

    abbrev pub loan_of : ChunkPartialEncoder S G K C g k c → ℕ
    loan_of encoder = encoder.engine.ghost_name

    abbrev pub indices_of : ChunkPartialEncoder S G K C g k c → List ℕ
    indices_of encoder = encoder.chunk_indices.items

-- once the borrow ends, the engine is what the encoder left, and if none was made what it had been
abbrev pub RestsUnlessEncoded : (S G K C : RattleType) (g : GridMeaning G.Denot) (k : KeyMeaning K.Denot) (c : ChainMeanings C.Denot)
    → MutBor (Engine S.Denot G.Denot K.Denot C.Denot g k c) → Result (ChunkPartialEncoder S.Denot G.Denot K.Denot C.Denot g k c) ArrayError → Fml
RestsUnlessEncoded S G K C g k c engine r = RestsIfErr (the_row S G K C g k c) engine loan_of r (λ last. last ≡ engine.now)
