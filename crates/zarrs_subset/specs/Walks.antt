-- Walks through the positions of a box.
use Rattle.std.specs.Prelude.{◌≡◌, ℕ, ◌+◌, ◌<◌, List, [], ◌∷◌, length, drop, Option, Result, MatchOption, MatchResult, if◌then◌else◌}
use Rattle.std.specs.declared.alloc.AllocError.{AllocError}
use Rattle.smallvec.specs.SmallVec.{SmallVec}
use Rattle.zarrs_subset.specs.declared.indices.Indices.{Indices}
use Rattle.zarrs_subset.specs.declared.indices.PositionWalk.{PositionWalk}
use Rattle.zarrs_subset.specs.Regions.{Box, box_of, place_in, positions}

-- the box that a walk goes through, and the number of the position that it is at
abbrev pub walk_box : PositionWalk → Box
walk_box walk = box_of walk.subset.now

abbrev pub walk_number : PositionWalk → ℕ
walk_number walk = place_in (walk_box walk) walk.current.items

-- the positions that an iterator has not returned yet
abbrev pub positions_left : Indices → List (List ℕ)
positions_left walk =
    if walk.is_done then []
    else (if walk.is_started then drop (place_in (box_of walk.subset.now) walk.current.items + 1) (positions (box_of walk.subset.now))
    else positions (box_of walk.subset.now))

-- a call returned the first of the positions that were left; or it was out of memory, and nothing is left; or nothing
-- was left
abbrev pub YieldsPosition : Indices → Option (Result (SmallVec ℕ) AllocError) → Indices → Type 0
YieldsPosition old item new =
    MatchOption item ((positions_left old ≡ []) × (positions_left new ≡ []))
    (λ given. MatchResult given (λ position. positions_left old ≡ position.items ∷ positions_left new)
    (λ _. (0 < length (positions_left old)) × (positions_left new ≡ [])))
