-- Parts of byte strings: those of a box, of byte strings that are an array over another box.
use Rattle.std.specs.Prelude.{ℕ, ◌+◌, List, [], slice_index_or}
use Rattle.zarrs_subset.specs.Boxes.{offset_from, place}
use Rattle.zarrs_subset.specs.Regions.{Box, place_in}

-- the byte string at a position of the box, of those of an array over it
abbrev pub string_at : Box → List (List ℕ) → List ℕ → List ℕ
string_at box strings position = slice_index_or strings (place_in box position) []

-- the same of an array of this corner and this shape, whose first byte string has the number `from`
abbrev pub string_from : List (List ℕ) → ℕ → List ℕ → List ℕ → List ℕ → List ℕ
string_from strings from start shape position = slice_index_or strings (from + place shape (offset_from start position)) []
