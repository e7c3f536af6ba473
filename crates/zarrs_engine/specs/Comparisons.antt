-- Chunks of two arrays, compared by the bytes that are stored.
use Rattle.std.specs.Prelude.{◌≡◌, ◌≢◌, ◌⊎◌, ◌↔◌, ◌<◌, ◌^◌, ℕ, Bool, IsTrue, List, length, Contains, None, Result, IfOk, IfErr, OnOk}
use Rattle.std.specs.Bool.{OnFalse, OnTrue}
use Rattle.zarrs_storage.specs.Store.{StoreState}
use Rattle.zarrs_engine_calls.specs.Layout.{Layout}
use Rattle.zarrs_engine_calls.specs.Canon.{IsCanonical}
use Rattle.zarrs_engine_calls.specs.Content.{content, value_at}
use Rattle.zarrs_engine_calls.specs.Laws.{AgreeOver, DifferInKeys}
use Rattle.zarrs_engine_calls.specs.Refusals.{Refusal, key_refusal, refusal_of}
use Rattle.zarrs_engine_calls.specs.declared.error.ArrayError.{ArrayError}
use Rattle.zarrs_engine.specs.Encoded.{ReadsKeys, RefusesEncoded}

-- an array lies like `a` in the store `one`, another like `b` in `two`; these are indices of chunks
module _ (a b : Layout) (one two : StoreState) (chunks : List (List ℕ)) where
  -- of each of these chunks the same bytes are stored in both, or none in both
  abbrev pub HoldSameChunks : Type 0
  HoldSameChunks = (index : List ℕ) → Contains chunks index → value_at one (a.key index) ≡ value_at two (b.key index)

  -- of one of these chunks they are not, and neither store refuses its key
  abbrev pub DifferInChunk : Type 0
  DifferInChunk =
      (index : List ℕ) × Contains chunks index × (value_at one (a.key index) ≢ value_at two (b.key index))
      × (key_refusal a index one ≡ None) × (key_refusal b index two ≡ None)

  -- neither store refuses one of the keys of these chunks
  abbrev pub ReadBothKeys : Type 0
  ReadBothKeys = ReadsKeys a chunks one × ReadsKeys b chunks two

  -- these chunks are not compared: their bytes are not returned by one of the stores
  abbrev pub RefusesComparison : Refusal → Type 0
  RefusesComparison r = RefusesEncoded a chunks one r ⊎ RefusesEncoded b chunks two r

  -- of two canonical arrays of one grid, data type, fill value and chain it is answered whether they agree over these chunks
  abbrev pub ComparesContent : Bool → Type 0
  ComparesContent equal = DifferInKeys a b → IsCanonical a (value_at one) → IsCanonical b (value_at two)
      → IsTrue equal ↔ AgreeOver a.grid chunks (content a (value_at one)) (content b (value_at two))

  -- it is answered whether the same bytes are stored, and so of what is read; or the comparison is refused
  pub record ComparesOrRefuses (result : Result Bool ArrayError) : Type 0 where
    pub equal : IfOk result (λ answer. OnTrue answer HoldSameChunks)
    pub different : IfOk result (λ answer. OnFalse answer DifferInChunk)
    pub content : IfOk result ComparesContent
    pub asked : IfOk result (λ answer. OnTrue answer ReadBothKeys)
    pub counted : OnOk result (length chunks < 2 ^ 64)
    pub refused : IfErr result (λ e. RefusesComparison (refusal_of e))
