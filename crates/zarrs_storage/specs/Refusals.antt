-- Why a call is refused.
use Rattle.std.specs.Prelude.{◌≡◌, ℕ, false, true, List, ◌⊎◌, string_bytes}
use Rattle.zarrs_storage.specs.Store.{StoreState, is_store_key, PassesValue}
use Rattle.zarrs_storage.specs.declared.error.StorageError.{StorageError}
use Rattle.zarrs_storage.specs.declared.error.StorageError.TheVariants.{InvalidMetadata, ReadOnly, InvalidByteRange, Exhausted, Other, OutOfMemory}

-- the text is not a store key, or out of memory
abbrev pub RefusesKey : List ℕ → StorageError → Type 0
RefusesKey text (InvalidMetadata key said) = ⊥
RefusesKey text ReadOnly = ⊥
RefusesKey text InvalidByteRange = ⊥
RefusesKey text Exhausted = ⊥
RefusesKey text (Other said) = is_store_key text ≡ false
RefusesKey text OutOfMemory = Unit {0}

-- the key refuses, or out of memory
abbrev pub RefusesRead : StoreState → List ℕ → StorageError → Type 0
RefusesRead s key e = (e ≡ OutOfMemory) ⊎ (s.refuses key ≡ true)

-- a refusal that says that what is at some key is no document speaks of this key
abbrev pub NamesKey : List ℕ → StorageError → Type 0
NamesKey key (InvalidMetadata at said) = at ≡ key
NamesKey key ReadOnly = Unit {0}
NamesKey key InvalidByteRange = Unit {0}
NamesKey key Exhausted = Unit {0}
NamesKey key (Other said) = Unit {0}
NamesKey key OutOfMemory = Unit {0}

-- the range passes the value at the key, the key refuses, or out of memory
abbrev pub RefusesRange : StoreState → List ℕ → ℕ → ℕ → StorageError → Type 0
RefusesRange s key offset count e = ((e ≡ InvalidByteRange) × PassesValue s.values key offset count) ⊎ RefusesRead s key e

-- the refusal with this text, or out of memory
abbrev pub SaysOther : List ℕ → StorageError → Type 0
SaysOther text (Other said) = string_bytes said ≡ text
SaysOther text OutOfMemory = Unit {0}
SaysOther text _ = ⊥
