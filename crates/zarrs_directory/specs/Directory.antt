-- What a store over a directory is: what was read of it, and what was written since.
use Rattle.std.specs.Prelude.{◌≡◌, ◌≢◌, ◌==◌, ◌&&◌, ℕ, ◌-◌, List, [], ◌∷◌, ◌++◌, Bool, true, false, not, nat_lt, if◌then◌else◌}
use Rattle.std.specs.Prelude.{codes, length, slice_index, string_bytes, Contains}
use Rattle.std.specs.List.{slice_split}
use Rattle.std.specs.Ordering.{nat_cmp}
use Rattle.std.specs.Cmp.Lexicographic.{slice_cmp}
use Rattle.std.specs.BTreeSet.{BTreeSet, contains}
use Rattle.std.specs.Borrow.{MutBor}
use Rattle.std.specs.FinMap as map
use Rattle.zarrs_storage.specs.Store.{StoreState, Values, slash, last_call}
use Rattle.zarrs_storage.specs.Memory.{values_of}
use Rattle.zarrs_storage.specs.Wrappers.{lent_state}
use Rattle.zarrs_storage.specs.declared.error.StorageError.{StorageError}
use Rattle.zarrs_storage.specs.declared.error.StorageError.TheVariants.{InvalidMetadata, ReadOnly, InvalidByteRange, Exhausted, Other, OutOfMemory}
use Rattle.zarrs_directory.specs.declared.caching.Cache.{Cache}
use Rattle.zarrs_directory.specs.declared.files.Directory.{Directory}
use Rattle.zarrs_directory.specs.declared.lending.LentDirectory.{LentDirectory}
use Rattle.zarrs_directory.specs.declared.store.DirectoryStore.{DirectoryStore}

-- ---- paths

-- the names between the slashes
abbrev pub names_of : List ℕ → List (List ℕ)
names_of key = slice_split (λ byte. byte == slash) key

-- a name that stays in its folder: some bytes without 0, and neither `.` nor `..`
abbrev pub IsName : List ℕ → Type 0
IsName name = (name ≢ []) × (name ≢ codes ".") × (name ≢ codes "..") × (Contains name 0 → ⊥)

-- whether a `/` is missing between two paths
abbrev pub lacks_slash : List ℕ → List ℕ → Bool
lacks_slash root key = nat_lt 0 (length root) && not (slice_index root (length root - 1) == slash) && nat_lt 0 (length key)

-- the path of what lies at the key below the root
abbrev pub path_below : List ℕ → List ℕ → List ℕ
path_below root key = (if lacks_slash root key then root ++ slash ∷ [] else root) ++ key

-- the path of the directory
abbrev pub root_of : {R : Type 0} → Directory R → List ℕ
root_of directory = string_bytes directory.root

-- ---- refusals

-- the text has the key, and after it what the system said
abbrev pub SaysKey : List ℕ → List ℕ → Type 0
SaysKey key text = (said : List ℕ) × (text ≡ key ++ codes ": " ++ said)

-- the file of the key is refused with what the system said, or out of memory
abbrev pub RefusesFile : List ℕ → StorageError → Type 0
RefusesFile key (InvalidMetadata at said) = ⊥
RefusesFile key ReadOnly = ⊥
RefusesFile key InvalidByteRange = ⊥
RefusesFile key Exhausted = ⊥
RefusesFile key (Other said) = SaysKey key (string_bytes said)
RefusesFile key OutOfMemory = Unit {0}

-- no writing call is left, or the file of the key is refused
abbrev pub RefusesWriting : StoreState → List ℕ → StorageError → Type 0
RefusesWriting s key (InvalidMetadata at said) = ⊥
RefusesWriting s key ReadOnly = ⊥
RefusesWriting s key InvalidByteRange = ⊥
RefusesWriting s key Exhausted = s.calls ≡ last_call
RefusesWriting s key (Other said) = SaysKey key (string_bytes said)
RefusesWriting s key OutOfMemory = Unit {0}

-- ---- what is held

-- whether the key is in the set
abbrev pub has_key : BTreeSet (List ℕ) → List ℕ → Bool
has_key read key = contains (slice_cmp nat_cmp) read key

-- whether the key was read
abbrev pub has_noted : Cache → List ℕ → Bool
has_noted cache key = has_key cache.read key

-- each key that was in the set is, and another key than this one is if it was
pub record KeepsKeys (old new : BTreeSet (List ℕ)) (key : List ℕ) : Type 0 where
  pub kept : (other : List ℕ) → has_key old other ≡ true → has_key new other ≡ true
  pub others : (other : List ℕ) → (other ≡ key → ⊥) → has_key new other ≡ has_key old other

-- another key than this one has the value that it had
abbrev pub KeepsOtherValues : Values → Values → List ℕ → Type 0
KeepsOtherValues old new key = (other : List ℕ) → (other ≡ key → ⊥) → map.get new other ≡ map.get old other

-- its map, which holds what was read and written; the keys that were read may be asked
abbrev pub cache_state : Cache → StoreState
cache_state cache = record {
  values = values_of cache.values;
  calls = cache.counts.calls;
  failures = cache.counts.failures;
  parts = cache.counts.parts;
  refuses = λ _. false;
  may_ask = λ key. has_noted cache key;
  may_read = λ _ _. true;
  sets_parts = false;
  lenders = [];
}

-- the counts of writing calls stay
pub record KeepsCounts (old new : Cache) : Type 0 where
  pub calls : new.counts.calls ≡ old.counts.calls
  pub failures : new.counts.failures ≡ old.counts.failures
  pub parts : new.counts.parts ≡ old.counts.parts

-- nothing was read and nothing written
pub record HoldsNothing (cache : Cache) : Type 0 where
  pub keys : (key : List ℕ) → has_noted cache key ≡ false
  pub values : values_of cache.values ≡ map.empty
  pub calls : cache.counts.calls ≡ 0
  pub failures : cache.counts.failures ≡ 0
  pub parts : cache.counts.parts ≡ 0

-- What was read and written is forgotten: no key may be asked. The counts stay.
pub record ForgetsAll (old new : Cache) : Type 0 where
  pub keys : (key : List ℕ) → has_noted new key ≡ false
  pub values : values_of new.values ≡ map.empty
  pub counts : KeepsCounts old new

-- A key is read: each other key has the value that it had and may be asked if it might, and no key that might be asked is
-- lost.
pub record NotesKey (old new : Cache) (key : List ℕ) : Type 0 where
  pub keys : KeepsKeys old.read new.read key
  pub values : KeepsOtherValues (values_of old.values) (values_of new.values) key
  pub counts : KeepsCounts old new

-- nothing of what is held is changed
pub record HoldsSame (old new : Cache) : Type 0 where
  pub keys : (key : List ℕ) → has_noted new key ≡ has_noted old key
  pub values : values_of new.values ≡ values_of old.values
  pub counts : KeepsCounts old new

-- ---- the store

-- whether the key was read
abbrev pub was_read : {R : Type 0} → DirectoryStore R → List ℕ → Bool
was_read s key = has_noted s.cache key

-- what is held of the directory
abbrev pub directory_state : {R : Type 0} → DirectoryStore R → StoreState
directory_state s = cache_state s.cache

-- the directory whose files are read and written
abbrev pub directory_of : {R : Type 0} → DirectoryStore R → Directory R
directory_of s = s.directory

-- The store is over the directory at this path. Nothing was read of it and nothing written to it.
pub record IsNew {R : Type 0} (root : List ℕ) (s : DirectoryStore R) : Type 0 where
  pub path : root_of (directory_of s) ≡ root
  pub cache : HoldsNothing s.cache

-- What was read and written is forgotten. The directory stays.
pub record Forgets {R : Type 0} (old new : DirectoryStore R) : Type 0 where
  pub cache : ForgetsAll old.cache new.cache
  pub directory : directory_of new ≡ directory_of old

-- a key of the directory is read
pub record ReadsKey {R : Type 0} (old new : DirectoryStore R) (key : List ℕ) : Type 0 where
  pub notes : NotesKey old.cache new.cache key
  pub directory : directory_of new ≡ directory_of old

-- nothing of the store is changed
pub record Stays {R : Type 0} (old new : DirectoryStore R) : Type 0 where
  pub cache : HoldsSame old.cache new.cache
  pub directory : directory_of new ≡ directory_of old

-- ---- a store whose parts are lent

-- what is held, and is lent
abbrev pub lent_cache : {R : Type 0} → LentDirectory R → MutBor Cache
lent_cache lent = lent.cache

-- what is held, with its lender
abbrev pub lent_directory_state : {R : Type 0} → LentDirectory R → StoreState
lent_directory_state lent = lent_state cache_state lent.cache

-- the directory whose files are read and written
abbrev pub lent_directory : {R : Type 0} → LentDirectory R → Directory R
lent_directory lent = lent.directory.now
