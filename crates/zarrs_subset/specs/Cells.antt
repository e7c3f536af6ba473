-- Row-major arrays of bytes, seen as cells of one size.
use Rattle.std.specs.Prelude.{◌≡◌, ℕ, ◌+◌, ◌*◌, ◌<◌, List, slice_index, if◌then◌else◌}
use Rattle.zarrs_subset.specs.Pieces.{piece_at}
use Rattle.zarrs_subset.specs.Boxes.{InShape, place, is_within, moved}

-- `new` is `old`, an array of shape `target`, except the cells of the box of `start` and `extents`, which are those
-- of the array `from` of shape `source` at the box of `origin` and `extents`: byte by byte
abbrev pub BoxCopied : ℕ → List ℕ → List ℕ → List ℕ → List ℕ → List ℕ → List ℕ → List ℕ → List ℕ → Type 0
BoxCopied size source origin target start extents from old new =
    (p : List ℕ) (k : ℕ) → InShape target p → k < size
    → slice_index new (place target p * size + k)
    ≡ (if is_within start extents p
    then slice_index from (place source (moved start origin p) * size + k)
    else slice_index old (place target p * size + k))

-- the same as `BoxCopied`, cell by cell
abbrev pub CellsCopied : ℕ → List ℕ → List ℕ → List ℕ → List ℕ → List ℕ → List ℕ → List ℕ → List ℕ → Type 0
CellsCopied size source origin target start extents from old new =
    (p : List ℕ) → InShape target p
    → piece_at size new (place target p)
    ≡ (if is_within start extents p
    then piece_at size from (place source (moved start origin p))
    else piece_at size old (place target p))
