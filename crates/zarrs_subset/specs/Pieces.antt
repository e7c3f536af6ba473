-- Bytes as pieces of one size.
use Rattle.std.specs.Prelude.{ℕ, ◌+◌, ◌*◌, List, map, slice_range}
use Rattle.std.specs.List.{range_with_len}

-- the piece of number k, if each has `size` bytes
abbrev pub piece_at : ℕ → List ℕ → ℕ → List ℕ
piece_at size bytes k = slice_range bytes (k * size) (k * size + size)

-- the first `count` pieces of that size
abbrev pub pieces : ℕ → ℕ → List ℕ → List (List ℕ)
pieces size count bytes = map (piece_at size bytes) (range_with_len 0 count)
