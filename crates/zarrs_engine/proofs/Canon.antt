-- A canonical store stays one.
use Rattle.std.proofs.Common.{◌≡◌, ℕ, Bool, false, List, Option, None, Result, Ok, Err, IfErr, OnOk}
use Rattle.zarrs_subset.specs.Regions.{Box}
use Rattle.zarrs_storage.specs.Store.{StoreState}
use Rattle.zarrs_data_type.specs.ArrayData.{ArrayData}
use Rattle.zarrs_engine_calls.specs.Canon.{IsCanonical, KeepsCanon}
use Rattle.zarrs_engine_calls.specs.Compactions.{Compacts}
use Rattle.zarrs_engine_calls.specs.Content.{value_at}
use Rattle.zarrs_engine_calls.specs.Fronts.{CutsAll, ErasesAll, StoresAll}
use Rattle.zarrs_engine_calls.specs.Layout.{Layout, IsLawful}
use Rattle.zarrs_engine_calls.specs.Refusals.{Refusal, refusal_of}
use Rattle.zarrs_engine_calls.specs.Step.{RefusesCompactChunk, RefusesCuts, RefusesErase, RefusesStore}
use Rattle.zarrs_engine_calls.specs.declared.error.ArrayError.{ArrayError}
use Rattle.zarrs_engine_calls.proofs.Compactions.{canonical_stays}
use Rattle.zarrs_engine_calls.proofs.Steps.{writes_canon, writes_keep_canon}

-- what both ends of a call keep, the call keeps
pub either_keeps : {T E K : Type 0} (result : Result T E) (does : Type 0) (refuses : E → Type 0)
    → (does → K) → ((e : E) → refuses e → K) → OnOk result does → IfErr result refuses → K
either_keeps (Ok x) does refuses f g d r = f d
either_keeps (Err e) does refuses f g d r = g e r

module _ (layout : Layout) (lawful : IsLawful layout) (keep : Bool) (old new : StoreState) where
  pub stored_canon : (region : Box) (held : ArrayData) (chunks : List (List ℕ)) → StoresAll layout keep region held chunks old new → KeepsCanon layout keep old new
  stored_canon region held chunks s off = (writes_canon layout lawful keep off).stored region held chunks old new s

  pub store_refused_canon : (first : Option Refusal) (region : Box) (held : ArrayData) (chunks : List (List ℕ)) (r : Refusal)
      → RefusesStore layout keep first region held chunks r old new → KeepsCanon layout keep old new
  store_refused_canon first region held chunks r why off = (writes_canon layout lawful keep off).store_refused first region held chunks r old new why

  -- a store, done or refused
  pub store_canon : (first : Option Refusal) (region : Box) (held : ArrayData) (chunks : List (List ℕ)) (result : Result (Unit {0}) ArrayError)
      → OnOk result ((first ≡ None) × StoresAll layout keep region held chunks old new)
      → IfErr result (λ e. RefusesStore layout keep first region held chunks (refusal_of e) old new)
      → KeepsCanon layout keep old new
  store_canon first region held chunks result =
      either_keeps result ((first ≡ None) × StoresAll layout keep region held chunks old new) (λ (e : ArrayError). RefusesStore layout keep first region held chunks (refusal_of e) old new)
      (λ s. stored_canon region held chunks s.1) (λ e why. store_refused_canon first region held chunks (refusal_of e) why)

  pub cut_canon : (shape wanted : List ℕ) → CutsAll layout keep shape wanted old new → KeepsCanon layout keep old new
  cut_canon shape wanted s off = (writes_canon layout lawful keep off).cut shape wanted old new s

  pub cut_refused_canon : (shape : List ℕ) (first : Option Refusal) (wanted : List ℕ) (r : Refusal)
      → RefusesCuts layout keep shape first wanted r old new → KeepsCanon layout keep old new
  cut_refused_canon shape first wanted r why off = (writes_canon layout lawful keep off).cut_refused shape first wanted r old new why

module _ (layout : Layout) (lawful : IsLawful layout) (old new : StoreState) where
  pub erased_canon : (chunks : List (List ℕ)) → ErasesAll layout chunks old new → KeepsCanon layout false old new
  erased_canon chunks s off = (writes_keep_canon layout lawful).erased chunks old new s

  pub erase_refused_canon : (first : Option Refusal) (chunks : List (List ℕ)) (r : Refusal) → RefusesErase layout first chunks r old new → KeepsCanon layout false old new
  erase_refused_canon first chunks r why off = (writes_keep_canon layout lawful).erase_refused first chunks r old new why

  -- a compaction on a canonical store
  pub compacted_canon : (index : List ℕ) → Compacts layout index old new → IsCanonical layout (value_at old) → ⊥
  compacted_canon index c canon = canonical_stays layout lawful index old new canon c

  pub compact_refused_canon : (index : List ℕ) (r : Refusal) → RefusesCompactChunk layout index r old new → KeepsCanon layout false old new
  compact_refused_canon index r why off = (writes_keep_canon layout lawful).compaction_refused _ index r old new why
