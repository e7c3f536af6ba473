-- Bytes that stand one after another in a source.
use Rattle.std.specs.Prelude.{◌≡◌, ℕ, ◌+◌, ◌<◌, Bool, true, List, length}
use Rattle.zarrs_codec_leaf.specs.declared.source.ByteSource.{Ghosts as SourceMeaning}
use Rattle.zarrs_codec_leaf.specs.Sources.{MayRead, window_bytes}
use Rattle.zarrs_codec_chain.specs.declared.stored.Stored.{Stored}

module _ {B : Type 0} {b : SourceMeaning B} where
  -- the bytes
  abbrev pub bytes_of : Stored B b → List ℕ
  bytes_of stored = window_bytes stored.window (b.bytes stored.source.now)

  -- whether the source refuses to be read
  abbrev pub refuses_of : Stored B b → Bool
  refuses_of stored = b.refuses stored.source.now

  -- whether the byte at this place of them may be read
  abbrev pub may_read_at : Stored B b → ℕ → Bool
  may_read_at stored place = b.may_read stored.source.now (stored.window.offset + place)

  -- each of these places may be read
  abbrev pub MayReadOf : Stored B b → (ℕ → Bool) → Type 0
  MayReadOf stored places = MayRead (b.may_read stored.source.now) stored.window places

  -- each of them may be read
  abbrev pub MayReadAll : Stored B b → Type 0
  MayReadAll stored = (place : ℕ) → place < length (bytes_of stored) → may_read_at stored place ≡ true
