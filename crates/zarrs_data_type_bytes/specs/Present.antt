-- The cells of optional data that are some.
use Rattle.std.specs.Prelude.{◌≡◌, ◌↔◌, ℕ, ◌*◌, ◌<◌, ◌==◌, not, Bool, true, List, [], ◌∷◌, length, map, take, count_by, slice_index}
use Rattle.std.specs.Prelude.{Option, None, Some, if◌then◌else◌, EachIndex}
use Rattle.std.specs.List.{range_with_len, filter_map, Contains}
use Rattle.std.specs.List.Sorted.{IsStrictlyIncreasing}
use Rattle.zarrs_subset.specs.Pieces.{piece_at}
use Rattle.zarrs_data_type_kinds.specs.Cell.{Cell, bytes, none, some}

-- whether a flag is set
abbrev pub flag_set : ℕ → Bool
flag_set flag = not (flag == 0)

-- these are the places of the flags that are set, in their order
pub record ArePlacesSet (mask places : List ℕ) : Type 0 where
  pub rising : IsStrictlyIncreasing places
  pub each : (i : ℕ) → Contains places i ↔ ((i < length mask) × (flag_set (slice_index mask i) ≡ true))

-- the new bytes are the pieces of this size that the old ones have there, one after another
pub record TakesPieces (size : ℕ) (places old new : List ℕ) : Type 0 where
  pub len : length new ≡ length places * size
  pub each : EachIndex places (λ k. piece_at size new k ≡ piece_at size old (slice_index places k))

-- the new bytes are the pieces whose flag is set
abbrev pub TakesSet : ℕ → List ℕ → List ℕ → List ℕ → Type 0
TakesSet size mask old new = (places : List ℕ) × ArePlacesSet mask places × TakesPieces size places old new

-- for each of the first n flags how many are set before it, or 0 if it is not set
abbrev pub ranks_set : List ℕ → ℕ → List ℕ
ranks_set mask n = map (λ i. if slice_index mask i == 0 then 0 else count_by flag_set (take i mask)) (range_with_len 0 n)

-- the inner cell of a cell that is some
abbrev pub inner_cell : Cell → Option Cell
inner_cell (some c) = Some c
inner_cell none = None
inner_cell (bytes b) = None

-- the inner cells of those that are some, in their order
abbrev pub present_cells : List Cell → List Cell
present_cells cs = filter_map inner_cell cs

-- none if the flag is not set, and else some of the next cell
abbrev pub spread_cells : List ℕ → List Cell → List Cell
spread_cells [] ds = []
spread_cells (flag ∷ mask) [] = none ∷ spread_cells mask []
spread_cells (flag ∷ mask) (d ∷ ds) = if flag == 0 then none ∷ spread_cells mask (d ∷ ds) else some d ∷ spread_cells mask ds
