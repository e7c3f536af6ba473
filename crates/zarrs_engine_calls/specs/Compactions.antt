-- What a compaction of a chunk does. It writes no cell.
use Rattle.std.specs.Prelude.{◌≡◌, ◌⊎◌, ℕ, ◌^◌, ◌<◌, nat_le, Bool, true, false, List, length, Option, Some, None}
use Rattle.std.specs.Option.{option_or}
use Rattle.zarrs_chunk_grid.specs.Grids.{box_at, has_box}
use Rattle.zarrs_storage.specs.Store.{StoreState}
use Rattle.zarrs_engine_calls.specs.Layout.{Layout}
use Rattle.zarrs_engine_calls.specs.Content.{value_at}
use Rattle.zarrs_engine_calls.specs.Changes.{IsPut}
use Rattle.zarrs_engine_calls.specs.Refusals as refusal
use Rattle.zarrs_engine_calls.specs.Refusals.{Refusal, RefusesBy, refuse_if, key_refusal}
use Rattle.zarrs_engine_calls.specs.ArgumentRefusals.{chunk_refusal}
use Rattle.zarrs_engine_calls.specs.StateRefusals.{RefusesErasure}

-- the compaction of the bytes of a chunk: nothing if the chain takes no such bytes, none if they are compact
abbrev pub compacted_bytes : Layout → List ℕ → List ℕ → Option (Option (List ℕ))
compacted_bytes layout index encoded = layout.chain.compacted (box_at layout.grid index).shape encoded

-- an accepted compaction that wrote: by one writing call the key of the chunk holds the compaction of its bytes
pub record Compacts (layout : Layout) (index : List ℕ) (old new : StoreState) : Type 0 where
  pub encoded : List ℕ
  pub less : List ℕ
  pub boxed : has_box layout.grid index ≡ true
  pub stands : value_at old (layout.key index) ≡ Some encoded
  pub compacts : compacted_bytes layout index encoded ≡ Some (Some less)
  pub short : length less < 2 ^ 64
  pub put : IsPut (layout.key index) (Some less) old new

-- one that wrote nothing: the chunk is absent, or its bytes are compact
pub record IsCompact (layout : Layout) (index : List ℕ) (old new : StoreState) : Type 0 where
  pub same : new ≡ old
  pub compact : (encoded : List ℕ) → value_at old (layout.key index) ≡ Some encoded
      → (has_box layout.grid index ≡ true) × (compacted_bytes layout index encoded ≡ Some None)

-- an accepted compaction, by its answer: whether it wrote
abbrev pub CompactsChunk : Layout → List ℕ → Bool → StoreState → StoreState → Type 0
CompactsChunk layout index true old new = Compacts layout index old new
CompactsChunk layout index false old new = IsCompact layout index old new

-- E4: the chain takes no such bytes; E8: their compaction is too long
abbrev pub less_refusal : Option (Option (List ℕ)) → Option Refusal
less_refusal None = Some refusal.codec
less_refusal (Some None) = None
less_refusal (Some (Some less)) = refuse_if (nat_le (2 ^ 64) (length less)) refusal.size_overflow

-- the refusal that the bytes at the key of a chunk decide if they are compacted: the index list, then the bytes; an absent
-- chunk refuses nothing
abbrev pub compaction_refusal : Layout → List ℕ → Option (List ℕ) → Option Refusal
compaction_refusal layout index None = None
compaction_refusal layout index (Some encoded) = option_or (chunk_refusal layout index) (less_refusal (compacted_bytes layout index encoded))

-- some bytes are present whose compaction is to be written
pub record HasCompaction (layout : Layout) (index : List ℕ) (state : StoreState) : Type 0 where
  pub encoded : List ℕ
  pub less : List ℕ
  pub stands : value_at state (layout.key index) ≡ Some encoded
  pub accepted : compaction_refusal layout index (Some encoded) ≡ None
  pub compacts : compacted_bytes layout index encoded ≡ Some (Some less)

-- Why a chunk is not compacted, in the store state at that moment: its key refuses to be read (E7), or then its bytes
-- refuse (E3, E4, E8), and no writing call was made; or the writing call failed (E7). Out of memory (E9) may come at any
-- time.
abbrev pub RefusesCompactionOf : Layout → List ℕ → ℕ → StoreState → Refusal → Type 0
RefusesCompactionOf layout index failed new r =
    ((failed ≡ 0) × RefusesBy (option_or (key_refusal layout index new) (compaction_refusal layout index (value_at new (layout.key index)))) r)
    ⊎ (HasCompaction layout index new × RefusesErasure failed new r)
