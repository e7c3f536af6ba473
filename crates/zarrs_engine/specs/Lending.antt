-- An engine's store that is lent.
use Rattle.std.specs.Borrow.{Lends, MutBor, Fml, RattleType}
use Rattle.zarrs_chunk_grid.specs.declared.traits.ChunkGridTraits.{Ghosts as GridMeaning}
use Rattle.zarrs_keys.specs.declared.traits.ChunkKeyEncodingTraits.{Ghosts as KeyMeaning}
use Rattle.zarrs_codec_chain.specs.declared.traits.ChainTraits.{Ghosts as ChainMeanings}
use Rattle.zarrs_engine.specs.declared.engine.Engine.{Engine}
use Rattle.zarrs_engine.specs.contracts.engine.Engine.{the_row}

-- the engine with this store
abbrev pub with_store : {S G K C : Type 0} {g : GridMeaning G} {k : KeyMeaning K} {c : ChainMeanings C} → Engine S G K C g k c → S → Engine S G K C g k c
with_store engine storage = record engine { storage = storage }

-- once the borrow ends, the engine has the store last left behind it, and its parts as they were
abbrev pub LendsStore : (S G K C : RattleType) (g : GridMeaning G.Denot) (k : KeyMeaning K.Denot) (c : ChainMeanings C.Denot)
    → MutBor (Engine S.Denot G.Denot K.Denot C.Denot g k c) → MutBor S.Denot → Fml
LendsStore S G K C g k c engine store = Lends (the_row S G K C g k c) S engine store (with_store engine.now)
