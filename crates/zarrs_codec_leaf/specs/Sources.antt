-- Bytes that are read range by range.
use Rattle.std.specs.Prelude.{◌≡◌, ◌⊎◌, ℕ, ◌+◌, ◌≤◌, ◌<◌, Bool, true, List, length, take, drop}
use Rattle.zarrs_storage.specs.declared.error.StorageError.{StorageError}
use Rattle.zarrs_storage.specs.declared.error.StorageError.TheVariants.{OutOfMemory}
use Rattle.zarrs_codec_leaf.specs.declared.source.SourceBytes.{SourceBytes}
use Rattle.zarrs_codec_leaf.specs.declared.source.SourceBytes.TheVariants.{Lent, Shared}
use Rattle.zarrs_codec_leaf.specs.declared.source.Window.{Window}

-- the bytes that a source returned
abbrev pub bytes_in : SourceBytes → List ℕ
bytes_in (Lent bytes) = bytes.now
bytes_in (Shared bytes) = bytes

-- the bytes of a window
abbrev pub window_bytes : Window → List ℕ → List ℕ
window_bytes window bytes = take window.len (drop window.offset bytes)

-- the window lies in the bytes
abbrev pub IsWindow : Window → List ℕ → Type 0
IsWindow window bytes = window.offset + window.len ≤ length bytes

-- each of these places of a window may be read
abbrev pub MayRead : (ℕ → Bool) → Window → (ℕ → Bool) → Type 0
MayRead may_read window places = (place : ℕ) → places place ≡ true → may_read (window.offset + place) ≡ true

-- each place from `offset` on may be read, `count` of them
abbrev pub MayReadPlaces : (ℕ → Bool) → ℕ → ℕ → Type 0
MayReadPlaces may_read offset count = (place : ℕ) → offset ≤ place → place < offset + count → may_read place ≡ true

-- the bytes are all those of the source, and each of them may be read
pub record LendsBytes (bytes : List ℕ) (may_read : ℕ → Bool) (lent : List ℕ) : Type 0 where
  pub all : lent ≡ bytes
  pub allowed : MayReadPlaces may_read 0 (length bytes)

-- the source refuses, or out of memory
abbrev pub RefusesSource : Bool → StorageError → Type 0
RefusesSource refuses e = (e ≡ OutOfMemory) ⊎ (refuses ≡ true)
