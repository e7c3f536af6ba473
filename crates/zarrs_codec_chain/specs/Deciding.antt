-- Which places of a chunk's bytes decide the cells of a part.
use Rattle.std.specs.Prelude.{◌≡◌, ℕ, true, Option, Some, List, length, slice_get}
use Rattle.zarrs_data_type.specs.Cell.{Cell}
use Rattle.zarrs_data_type.specs.Kind.{Kind}
use Rattle.zarrs_subset.specs.Boxes.{place}
use Rattle.zarrs_subset.specs.Regions.{Box, Holds, box_at_origin}
use Rattle.zarrs_codec_chain.specs.Places.{Places}

-- the cells of a chunk's bytes, for its type, its fill value and its shape
abbrev pub Decoding : Type 0
Decoding = (kind : Kind) (fill : Cell) (shape : List ℕ) (encoded : List ℕ) → Option (List Cell)

-- bytes that decode, are as long and have the same byte at each place that a part needs, have the same cells at the
-- positions of the part that lie in the chunk
abbrev pub PlacesDecide : Decoding → Places → Type 0
PlacesDecide decoded places =
    (kind : Kind) (fill : Cell) (shape : List ℕ) (part : Box) (x y : List ℕ) (cs ds : List Cell)
    → decoded kind fill shape x ≡ Some cs → decoded kind fill shape y ≡ Some ds → length y ≡ length x
    → ((n : ℕ) → places kind shape part x n ≡ true → slice_get y n ≡ slice_get x n)
    → (position : List ℕ) → Holds (box_at_origin shape) position → Holds part position
    → slice_get ds (place shape position) ≡ slice_get cs (place shape position)
