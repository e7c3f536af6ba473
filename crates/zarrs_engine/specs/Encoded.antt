-- Chunks as the bytes that are stored.
use Rattle.std.specs.Prelude.{◌≡◌, ◌≤◌, ◌^◌, true, List, length, map, Option, None, Contains, ℕ, Result, IfOk, IfErr, IsErr, OnOk}
use Rattle.zarrs_storage.specs.Store.{StoreState}
use Rattle.zarrs_engine_calls.specs.Layout.{Layout}
use Rattle.zarrs_engine_calls.specs.Content.{value_at}
use Rattle.zarrs_engine_calls.specs.Refusals.{Refusal, key_refusal, out_of_memory, refusal_of, size_overflow, storage}
use Rattle.zarrs_engine_calls.specs.declared.error.ArrayError.{ArrayError}
use Rattle.zarrs_engine_layout.specs.Steps.{RefusesValue}

-- the bytes at the key of a chunk were read, none if it is absent; or the read is refused, as it is where the store refuses the key
pub record ReadsValue (layout : Layout) (index : List ℕ) (state : StoreState) (result : Result (Option (List ℕ)) ArrayError) : Type 0 where
  pub value : IfOk result (λ found. found ≡ value_at state (layout.key index))
  pub long : OnOk result (length index ≡ layout.grid.dimensions)
  pub asked : OnOk result (key_refusal layout index state ≡ None)
  pub refused : IfErr result (λ e. RefusesValue layout index state (refusal_of e))
  pub refusing : state.refuses (layout.key index) ≡ true → IsErr result

-- the bytes that are stored for each of these chunks, none for one that is absent
abbrev pub stored_values : Layout → StoreState → List (List ℕ) → List (Option (List ℕ))
stored_values layout state indices = map (λ index. value_at state (layout.key index)) indices

-- the store refuses none of the keys of these chunks
abbrev pub ReadsKeys : Layout → List (List ℕ) → StoreState → Type 0
ReadsKeys layout chunks state = (index : List ℕ) → Contains chunks index → key_refusal layout index state ≡ None

-- The bytes of these chunks are not returned: there are more chunks than a `u64` counts, the store refuses to read the
-- key of one of them, or out of memory.
abbrev pub RefusesEncoded : Layout → List (List ℕ) → StoreState → Refusal → Type 0
RefusesEncoded layout chunks state out_of_memory = Unit {0}
RefusesEncoded layout chunks state size_overflow = 2 ^ 64 ≤ length chunks
RefusesEncoded layout chunks state storage = (index : List ℕ) × Contains chunks index × (state.refuses (layout.key index) ≡ true)
RefusesEncoded layout chunks state other = ⊥
