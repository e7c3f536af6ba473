-- What calls on the metadata of an array do in its store.
use Rattle.std.specs.Prelude.{◌≡◌, ◌≢◌, ◌⊎◌, ℕ, ◌+◌, List, [], ◌∷◌, ◌++◌, Ok}
use Rattle.zarrs_storage.specs.Store.{StoreState, counted}
use Rattle.zarrs_engine_calls.specs.Changes.{IsPut}
use Rattle.zarrs_engine_calls.specs.Refusals.{Refusal, out_of_memory}
use Rattle.zarrs_engine_layout.specs.Steps.{RefusesPut}
use Rattle.zarrs_metadata.specs.Versions.{MetadataData}
use Rattle.zarrs_options.specs.Options.{MetadataOptionsData}
use Rattle.zarrs_creation.specs.Shown.{shown}
use Rattle.zarrs_creation.specs.Writing.{Put, IsWrittenBy}

-- this is put by one writing call, and then the rest is done
pub record PutsFirst (put : Put) (rest : StoreState → Type 0) (old : StoreState) : Type 0 where
  pub middle : StoreState
  pub first : IsPut put.key put.value old middle
  pub others : rest middle

-- these are put, one after another, by one writing call each
abbrev pub ArePut : List Put → StoreState → StoreState → Type 0
ArePut [] old new = new ≡ old
ArePut (p ∷ puts) old new = PutsFirst p (λ middle. ArePut puts middle new) old

-- A writing call was refused: it counts as one that failed, unless no call was left. So memory that was short is what the
-- call itself answered.
pub record RefusesCall (refusal : Refusal) (old new : StoreState) : Type 0 where
  pub put : RefusesPut refusal old new
  pub called : new.failures ≡ old.failures + counted old

-- a front of these is put, and the call that puts the next one is refused
pub record PutsFront (puts : List Put) (refusal : Refusal) (old new : StoreState) : Type 0 where
  pub done : List Put
  pub left : List Put
  pub all : puts ≡ done ++ left
  pub some_left : left ≢ []
  pub middle : StoreState
  pub front : ArePut done old middle
  pub refused : RefusesCall refusal middle new

-- memory was short before the first call, or a front of these is put
abbrev pub RefusesPuts : List Put → Refusal → StoreState → StoreState → Type 0
RefusesPuts puts refusal old new = ((refusal ≡ out_of_memory) × (new ≡ old)) ⊎ PutsFront puts refusal old new

-- these puts write the metadata of an array at the path as options show it
pub record AreShown (o : MetadataOptionsData) (path : List ℕ) (m : MetadataData) (puts : List Put) : Type 0 where
  pub shows : MetadataData
  pub is_shown : shown o m ≡ Ok shows
  pub written : IsWrittenBy path shows puts

-- the metadata of an array at the path is written as options show it
pub record StoresMetadata (o : MetadataOptionsData) (path : List ℕ) (m : MetadataData) (old new : StoreState) : Type 0 where
  pub shows : MetadataData
  pub is_shown : shown o m ≡ Ok shows
  pub puts : List Put
  pub written : IsWrittenBy path shows puts
  pub put : ArePut puts old new

-- a front of what writes it is done
pub record StoresMetadataFront (o : MetadataOptionsData) (path : List ℕ) (m : MetadataData) (refusal : Refusal) (old new : StoreState) : Type 0 where
  pub shows : MetadataData
  pub is_shown : shown o m ≡ Ok shows
  pub puts : List Put
  pub written : IsWrittenBy path shows puts
  pub refused : PutsFront puts refusal old new

-- it is not written: memory was short before the first writing call, or a front of what writes it is done
abbrev pub RefusesStoreMetadata : MetadataOptionsData → List ℕ → MetadataData → Refusal → StoreState → StoreState → Type 0
RefusesStoreMetadata o path m refusal old new = ((refusal ≡ out_of_memory) × (new ≡ old)) ⊎ StoresMetadataFront o path m refusal old new
