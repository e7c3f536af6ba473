-- Why a document is refused.
use Rattle.std.specs.Prelude.{◌≡◌, List, ℕ, Option, Some, None, Result, Ok, Err}
use Rattle.zarrs_metadata_parts.specs.declared.error.MetadataError.{MetadataError}
use Rattle.zarrs_metadata_parts.specs.declared.error.MetadataError.TheVariants.{InvalidShape, OutOfMemory}
use Rattle.zarrs_metadata_v3.specs.declared.unread.Unread.{Unread}
use Rattle.zarrs_metadata_v3.specs.declared.unread.Unread.TheVariants as unread

-- it reads as none, or out of memory
abbrev pub RefusesReading : {A : Type 0} → Option A → MetadataError → Type 0
RefusesReading read InvalidShape = read ≡ None
RefusesReading read OutOfMemory = Unit {0}

-- the refusal of a document by what is wrong with its members
abbrev pub metadata_error_of : Unread → MetadataError
metadata_error_of (unread.Missing name) = InvalidShape
metadata_error_of (unread.Wrong name is) = InvalidShape
metadata_error_of unread.OutOfMemory = OutOfMemory

-- what is read is what is said; it is refused if nothing is said, or out of memory
abbrev pub Reads : {A B : Type 0} → (A → B) → Option B → Result A Unread → Type 0
Reads shown said (Ok a) = said ≡ Some (shown a)
Reads shown said (Err e) = RefusesReading said (metadata_error_of e)

-- ---- which member

-- the member of this name is missing
abbrev pub IsMissing : List ℕ → Unread → Type 0
IsMissing name (unread.Missing missing) = missing.now ≡ name
IsMissing name (unread.Wrong wrong is) = ⊥
IsMissing name unread.OutOfMemory = ⊥

-- something is wrong with the member of this name
abbrev pub IsWrong : List ℕ → Unread → Type 0
IsWrong name (unread.Missing missing) = ⊥
IsWrong name (unread.Wrong wrong is) = wrong.now ≡ name
IsWrong name unread.OutOfMemory = ⊥

-- the member of this name does not read: it is missing if it is absent, and wrong if it is there; or out of memory
abbrev pub IsUnread : {A : Type 0} → List ℕ → Option A → Unread → Type 0
IsUnread name member unread.OutOfMemory = Unit {0}
IsUnread name None (unread.Missing missing) = missing.now ≡ name
IsUnread name None (unread.Wrong wrong is) = ⊥
IsUnread name (Some value) (unread.Missing missing) = ⊥
IsUnread name (Some value) (unread.Wrong wrong is) = wrong.now ≡ name

-- the fault of the member of this name: it is missing, or it is there and this text says what is wrong with it
abbrev pub IsFault : {A : Type 0} → List ℕ → List ℕ → Option A → Unread → Type 0
IsFault name text None (unread.Missing missing) = missing.now ≡ name
IsFault name text None (unread.Wrong wrong is) = ⊥
IsFault name text (Some value) (unread.Missing missing) = ⊥
IsFault name text (Some value) (unread.Wrong wrong is) = (wrong.now ≡ name) × (is.now ≡ text)
IsFault name text member unread.OutOfMemory = ⊥
