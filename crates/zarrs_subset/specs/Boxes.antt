-- Positions, boxes and their row-major order. A position is a list of numbers, one for each dimension;
-- a box is its start and its extents, both of that length.
use Rattle.std.specs.Prelude.{ℕ, ◌+◌, ◌-◌, ◌*◌, ◌/◌, ◌%◌, ◌<◌, ◌≤◌, Bool, true, false, ◌&&◌, List, [], ◌∷◌, map, nat_le}
use Rattle.std.specs.Prelude.{nat_lt, max, min, slice_index, ◌^◌, length, ◌==◌, if◌then◌else◌}
use Rattle.std.specs.List.{flat_map, range_with_len, zip}

-- how many positions an array or a box has: the product of its extents
abbrev pub position_count : List ℕ → ℕ
position_count [] = 1
position_count (n ∷ shape) = n * position_count shape

-- p is a position of an array of this shape
abbrev pub InShape : List ℕ → List ℕ → Type 0
InShape [] [] = Unit {0}
InShape [] (i ∷ p) = ⊥
InShape (n ∷ shape) [] = ⊥
InShape (n ∷ shape) (i ∷ p) = (i < n) × InShape shape p

-- the row-major number of the position p in an array of this shape
abbrev pub place : List ℕ → List ℕ → ℕ
place [] p = 0
place (n ∷ shape) [] = 0
place (n ∷ shape) (i ∷ p) = i * position_count shape + place shape p

-- the box of this start and these extents lies in an array of this shape
abbrev pub BoxFits : List ℕ → List ℕ → List ℕ → Type 0
BoxFits [] [] [] = Unit {0}
BoxFits [] [] (n ∷ shape) = ⊥
BoxFits [] (e ∷ extents) shape = ⊥
BoxFits (s ∷ start) [] shape = ⊥
BoxFits (s ∷ start) (e ∷ extents) [] = ⊥
BoxFits (s ∷ start) (e ∷ extents) (n ∷ shape) = (s + e ≤ n) × BoxFits start extents shape

-- the numbers, one for each dimension of the shape, except those of dimensions of extent 1
abbrev pub without_ones : List ℕ → List ℕ → List ℕ
without_ones [] numbers = []
without_ones (n ∷ shape) [] = []
without_ones (n ∷ shape) (a ∷ numbers) = if n == 1 then without_ones shape numbers else a ∷ without_ones shape numbers

-- i is one of the e numbers from s on
abbrev pub in_range : ℕ → ℕ → ℕ → Bool
in_range s e i = nat_le s i && nat_lt i (s + e)

-- p is a position of the box of this start and these extents
abbrev pub is_within : List ℕ → List ℕ → List ℕ → Bool
is_within [] extents [] = true
is_within [] extents (i ∷ p) = false
is_within (s ∷ start) [] p = false
is_within (s ∷ start) (e ∷ extents) [] = false
is_within (s ∷ start) (e ∷ extents) (i ∷ p) = in_range s e i && is_within start extents p

-- p, seen from another corner: what lay at `from` lies at `to`
abbrev pub moved : List ℕ → List ℕ → List ℕ → List ℕ
moved [] to p = []
moved (a ∷ from) [] p = []
moved (a ∷ from) (b ∷ to) [] = []
moved (a ∷ from) (b ∷ to) (i ∷ p) = (b + (i - a)) ∷ moved from to p

-- the positions of a box in lexicographic order; with no dimension it is the one empty list
abbrev pub positions_from : List ℕ → List ℕ → List (List ℕ)
positions_from [] extents = [] ∷ []
positions_from (s ∷ start) [] = []
positions_from (s ∷ start) (e ∷ extents) = flat_map (λ i. map (λ p. i ∷ p) (positions_from start extents)) (range_with_len s e)

-- the position of number k of an array of this shape
abbrev pub unravel : List ℕ → ℕ → List ℕ
unravel [] k = []
unravel (n ∷ shape) k = (k / position_count shape) ∷ unravel shape (k % position_count shape)

-- where p lies from the corner `start`, and what lies at q from there
abbrev pub offset_from : List ℕ → List ℕ → List ℕ
offset_from [] p = []
offset_from (s ∷ start) [] = []
offset_from (s ∷ start) (i ∷ p) = (i - s) ∷ offset_from start p

abbrev pub offset_by : List ℕ → List ℕ → List ℕ
offset_by [] q = []
offset_by (s ∷ start) [] = []
offset_by (s ∷ start) (i ∷ q) = (s + i) ∷ offset_by start q

-- ---- boxes of two arrays' coordinates, dimension by dimension

abbrev pub zip_with : (ℕ → ℕ → ℕ) → List ℕ → List ℕ → List ℕ
zip_with f xs ys = map (λ q. f q.0 q.1) (zip xs ys)

-- the ends of a box
abbrev pub ends : List ℕ → List ℕ → List ℕ
ends start extents = zip_with (λ s e. s + e) start extents

-- each end of the box fits u64
abbrev pub EndsFit : List ℕ → List ℕ → Type 0
EndsFit start extents = (k : ℕ) → slice_index start k + slice_index extents k < 2 ^ 64

-- the corner and the extents of the positions that two boxes share
abbrev pub overlap_start : List ℕ → List ℕ → List ℕ
overlap_start start other = zip_with (λ s t. max s t) start other

abbrev pub overlap_extents : List ℕ → List ℕ → List ℕ → List ℕ → List ℕ
overlap_extents start extents other other_extents =
    zip_with (λ e s. e - s) (zip_with (λ d e. min d e) (ends start extents) (ends other other_extents)) (overlap_start start other)

-- in each dimension the two boxes share an index
abbrev pub MeetAlong : List ℕ → List ℕ → List ℕ → List ℕ → Type 0
MeetAlong start extents other other_extents =
    (k : ℕ) → k < length start
    → max (slice_index start k) (slice_index other k) < min (slice_index start k + slice_index extents k) (slice_index other k + slice_index other_extents k)
