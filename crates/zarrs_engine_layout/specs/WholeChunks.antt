-- Chunks that lie below a shape, as those below a shape of chunk numbers.
use Rattle.std.specs.Prelude.{◌≡◌, ◌⊎◌, ℕ, ◌<◌, ◌≤◌, true, List, length, slice_index}
use Rattle.zarrs_subset.specs.Regions.{box_at_origin, place_in}
use Rattle.zarrs_chunk_grid.specs.Axes.{Axis, Covers}
use Rattle.zarrs_chunk_grid.specs.Grids.{Grid}
use Rattle.zarrs_engine_calls.specs.Cuts.{is_below}

-- of the positions of an array of this shape those from number `first` up to number `end`, which is left out, are below
-- `whole`
abbrev pub PassesBelow : List ℕ → List ℕ → ℕ → ℕ → Type 0
PassesBelow shape whole first end =
    (position : List ℕ) → is_below shape position ≡ true
    → first ≤ place_in (box_at_origin shape) position → place_in (box_at_origin shape) position < end
    → is_below whole position ≡ true

-- along one dimension these many chunks end below the extent, and the next one does not; or all `count` of them do
abbrev pub AreWholeAlong : Axis → ℕ → ℕ → ℕ → Type 0
AreWholeAlong axis count extent whole = Covers axis whole extent ⊎ ((axis.edge axis.count ≤ extent) × (whole ≡ count))

-- the same along each dimension
pub record AreWhole (grid : Grid) (counts shape whole : List ℕ) : Type 0 where
  pub long : length whole ≡ grid.dimensions
  pub along : (k : ℕ) → k < grid.dimensions → AreWholeAlong (grid.axis k) (slice_index counts k) (slice_index shape k) (slice_index whole k)
