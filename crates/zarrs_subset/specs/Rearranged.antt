-- Cells in another order.
use Rattle.std.specs.Prelude.{ℕ, List, map}
use Rattle.std.specs.List.{range_with_len}
use Rattle.zarrs_subset.specs.Boxes.{position_count, unravel}

-- what a function makes of each position of an array of this shape, in row-major order
abbrev pub made_of : {X : Type 0} → (List ℕ → X) → List ℕ → List X
made_of f shape = map (λ k. f (unravel shape k)) (range_with_len 0 (position_count shape))
