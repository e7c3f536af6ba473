-- Cells of a chunk under the codec `bytes` that are put straight into a box.
use Rattle.std.specs.Prelude.{◌≡◌, ℕ, ◌+◌, ◌*◌, ◌≤◌, Bool, true, List, length, reverse, if◌then◌else◌, Option, Some}
use Rattle.zarrs_codec_leaf.specs.declared.bytes_codec.Endianness.{Endianness}
use Rattle.zarrs_codec_leaf.specs.Bytes.{in_order, takes_bytes}
use Rattle.zarrs_subset.specs.Boxes.{InShape, moved, place}
use Rattle.zarrs_subset.specs.Pieces.{piece_at}
use Rattle.zarrs_subset.specs.Regions.{Box, in_box}
use Rattle.zarrs_data_type.specs.Cell.{takes_any_bytes}
use Rattle.zarrs_data_type.specs.Kind.{Kind, element_size}

-- bytes of this length are so many cells under the codec, whatever they are
pub record AreCells (e : Option Endianness) (k : Kind) (count len : ℕ) : Type 0 where
  pub size : ℕ
  pub sized : element_size k ≡ Some size
  pub taken : takes_bytes e k ≡ true
  pub any : takes_any_bytes k ≡ true
  pub length_is : len ≡ count * size

-- `new` is `old`, an array of shape `parent`, except the cells of the box `own`: those that `all`, an array of this shape,
-- has at the positions of the part, with the bytes of each in reverse or as they are
abbrev pub PutsPart : (reversed : Bool) (size : ℕ) (shape : List ℕ) (part : Box) (parent : List ℕ) (own : Box) (all old new : List ℕ) → Type 0
PutsPart reversed size shape part parent own all old new =
    (p : List ℕ) → InShape parent p
    → piece_at size new (place parent p)
    ≡ (if in_box own p
    then in_order reversed (piece_at size all (place shape (moved own.start part.start p)))
    else piece_at size old (place parent p))

-- `turned` are the cells of `source`, the bytes of each in reverse
pub record IsTurned (size : ℕ) (source turned : List ℕ) : Type 0 where
  pub same_length : length turned ≡ length source
  pub each : (i : ℕ) → i * size + size ≤ length source → piece_at size turned i ≡ reverse (piece_at size source i)
