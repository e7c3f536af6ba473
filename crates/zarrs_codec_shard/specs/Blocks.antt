-- The cells of a box behind a list of bytes, and blocks of its rows.
use Rattle.std.specs.Prelude.{◌≡◌, ℕ, ◌+◌, ◌*◌, List, [], ◌∷◌, ◌++◌, length}
use Rattle.zarrs_data_type.specs.Parts.{ExtractsAt}
use Rattle.zarrs_subset.specs.Boxes.{position_count}
use Rattle.zarrs_subset.specs.Pieces.{piece_at}
use Rattle.zarrs_subset.specs.Regions.{Box, box_from}

-- the numbers with another first one, and with so much added to the first
abbrev pub with_first : ℕ → List ℕ → List ℕ
with_first n [] = []
with_first n (m ∷ ms) = n ∷ ms

abbrev pub first_raised : ℕ → List ℕ → List ℕ
first_raised n [] = []
first_raised n (m ∷ ms) = (m + n) ∷ ms

-- so many rows of a box, from one on: its positions that have one of those indices in the first dimension
abbrev pub rows_of : Box → (first count : ℕ) → Box
rows_of box first count = box_from (first_raised first box.start) (with_first count box.shape)

-- the new list is the old one, and behind it the cells of one size at the positions of `part`, of an array over `box`
pub record AddsCells (size : ℕ) (box : Box) (bytes : List ℕ) (part : Box) (old new : List ℕ) : Type 0 where
  pub added : List ℕ
  pub new_is : new ≡ old ++ added
  pub count : length added ≡ position_count part.shape * size
  pub cells_are : ExtractsAt box (piece_at size bytes) part (piece_at size added)
