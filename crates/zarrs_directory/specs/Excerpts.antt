-- What a store of excerpts is: parts of the files of a directory that were read.
use Rattle.std.specs.Prelude.{◌≡◌, ℕ, ◌+◌, ◌-◌, ◌≤◌, ◌<◌, ◌&&◌, ◌||◌, List, [], ◌++◌, Bool, true, false, Option, None, Some}
use Rattle.std.specs.Prelude.{length, map, nat_le, nat_lt, replicate}
use Rattle.std.specs.Ordering.{nat_cmp}
use Rattle.std.specs.Cmp.Lexicographic.{slice_cmp}
use Rattle.std.specs.BTreeMap.{BTreeMap}
use Rattle.std.specs.BTreeMap as tree
use Rattle.std.specs.FinMap as finite
use Rattle.zarrs_storage.specs.Store.{StoreState, Values}
use Rattle.zarrs_directory.specs.Directory.{has_key}
use Rattle.zarrs_directory.specs.declared.excerpt.Excerpt.{Excerpt}
use Rattle.zarrs_directory.specs.declared.excerpts.Excerpts.{Excerpts}
use Rattle.zarrs_directory.specs.declared.excerpt.Wanted.{Wanted}
use Rattle.zarrs_directory.specs.declared.files.Directory.{Directory}

-- ---- one file

-- the bytes of the file; a place that was not read has a zero
abbrev pub file_bytes : Excerpt → List ℕ
file_bytes excerpt =
    replicate excerpt.start 0 ++ (excerpt.bytes ++ replicate (excerpt.size - (excerpt.start + length excerpt.bytes)) 0)

-- whether the place may be asked: it was read, or lies past the file
abbrev pub has_place : Excerpt → ℕ → Bool
has_place excerpt place = nat_le excerpt.size place || (nat_le excerpt.start place && nat_lt place (excerpt.start + length excerpt.bytes))

-- all of the file was read
pub record IsWhole (excerpt : Excerpt) : Type 0 where
  pub start : excerpt.start ≡ 0
  pub size : excerpt.size ≡ length excerpt.bytes

-- the place is wanted of a file of so many bytes: if there are as many as was said, those that were named, and otherwise each
abbrev pub IsWanted : Option Wanted → ℕ → ℕ → Type 0
IsWanted None size place = Unit {0}
IsWanted (Some wanted) size place = size ≡ wanted.size → (wanted.start ≤ place) × (place < wanted.end)

-- each place of the file that is wanted may be asked
abbrev pub HasWanted : Option Wanted → Excerpt → Type 0
HasWanted wanted excerpt = (place : ℕ) → IsWanted wanted excerpt.size place → has_place excerpt place ≡ true

-- ---- the store

-- what was read at the key
abbrev pub excerpt_at : BTreeMap (List ℕ) Excerpt → List ℕ → Option Excerpt
excerpt_at found key = tree.get (slice_cmp nat_cmp) found key

-- another key than this one has the excerpt that it had
abbrev pub KeepsOtherExcerpts : BTreeMap (List ℕ) Excerpt → BTreeMap (List ℕ) Excerpt → List ℕ → Type 0
KeepsOtherExcerpts old new key = (other : List ℕ) → (other ≡ key → ⊥) → excerpt_at new other ≡ excerpt_at old other

-- the files that were found
abbrev pub files_of : BTreeMap (List ℕ) Excerpt → Values
files_of found = finite.from_entries (map (λ entry. (entry.0, file_bytes entry.1)) found.entries)

-- of a file that was found, whether the place may be asked
abbrev pub may_read_at : Option Excerpt → ℕ → Bool
may_read_at None place = true
may_read_at (Some excerpt) place = has_place excerpt place

-- its map is the files that were found; the keys that were read may be asked, and the places that were read
abbrev pub excerpts_state : {R : Type 0} → Excerpts R → StoreState
excerpts_state store = record {
  values = files_of store.found;
  calls = 0;
  failures = 0;
  parts = 0;
  refuses = λ _. false;
  may_ask = λ key. has_key store.read key;
  may_read = λ key place. may_read_at (excerpt_at store.found key) place;
  sets_parts = false;
  lenders = [];
}

-- the directory whose files were read
abbrev pub excerpts_of : {R : Type 0} → Excerpts R → Directory R
excerpts_of store = store.directory.now

-- ---- in terms of its state

-- the excerpt is what may be read at the key
pub record ShowsExcerpt (state : StoreState) (key : List ℕ) (excerpt : Excerpt) : Type 0 where
  pub file : finite.get state.values key ≡ Some (file_bytes excerpt)
  pub places : (place : ℕ) → state.may_read key place ≡ has_place excerpt place

-- nothing was read
pub record IsNoExcerpt (state : StoreState) : Type 0 where
  pub keys : (key : List ℕ) → state.may_ask key ≡ false

-- of the file at the key the places may be asked that are wanted
abbrev pub MayReadWanted : StoreState → List ℕ → Option Wanted → Type 0
MayReadWanted state key wanted =
    (value : List ℕ) (place : ℕ) → finite.get state.values key ≡ Some value → IsWanted wanted (length value) place → state.may_read key place ≡ true

-- the key is as it was
pub record KeepsKey (old new : StoreState) (key : List ℕ) : Type 0 where
  pub asked : new.may_ask key ≡ old.may_ask key
  pub value : finite.get new.values key ≡ finite.get old.values key
  pub places : (place : ℕ) → new.may_read key place ≡ old.may_read key place

-- The file of the key was read: it may be asked, and the places that are wanted, or all if it was read before. Each other
-- key is as it was.
pub record ReadsExcerpt (old new : StoreState) (key : List ℕ) (wanted : Option Wanted) : Type 0 where
  pub asked : new.may_ask key ≡ true
  pub first : old.may_ask key ≡ false → MayReadWanted new key wanted
  pub again : old.may_ask key ≡ true → MayReadWanted new key None
  pub others : (other : List ℕ) → (other ≡ key → ⊥) → KeepsKey old new other
