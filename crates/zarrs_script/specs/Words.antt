-- What the words of a line say: names, numbers, lists of what is joined by commas, and regions.
use Rattle.std.specs.Prelude.{ℕ, ◌+◌, ◌^◌, ◌==◌, ◌&&◌, Bool, false, if◌then◌else◌, nat_lt, List, [], ◌∷◌, codes, Option, Some, None}
use Rattle.std.specs.Cmp.Lexicographic.{pointwise}
use Rattle.std.specs.List.{slice_split}
use Rattle.std.specs.Str.{bytes_eq, all_ascii_digits}
use Rattle.std.specs.Str.Parse.{digits_value}
use Rattle.zarrs_subset.specs.Regions.{Box, box_from}
use Rattle.zarrs_metadata_parts.specs.Extension.{◌>>=◌}

-- what a table of names has for the name
abbrev pub look_up : {A : Type 0} → List (List ℕ × A) → List ℕ → Option A
look_up [] name = None
look_up (entry ∷ others) name = if bytes_eq name entry.0 then Some entry.1 else look_up others name

-- a number: one decimal digit or more, below 2 ^ 64
abbrev pub is_number : List ℕ → Bool
is_number [] = false
is_number word = all_ascii_digits word && nat_lt (digits_value 10 word) (2 ^ 64)

unfoldable pub number_of : List ℕ → Option ℕ
number_of word = if is_number word then Some (digits_value 10 word) else None

-- the items of a list: they are joined by commas, and `-` is none
unfoldable pub items_of : List ℕ → List (List ℕ)
items_of word = if bytes_eq word (codes "-") then [] else slice_split (λ b. b == 44) word

-- what each of the words says
abbrev pub each_of : {A : Type 0} → (List ℕ → Option A) → List (List ℕ) → Option (List A)
each_of item [] = Some []
each_of item (word ∷ words) = do
  first ← item word
  others ← each_of item words
  Some (first ∷ others)

abbrev pub numbers_in_word : List ℕ → Option (List ℕ)
numbers_in_word word = each_of number_of (items_of word)

-- there is a region that begins at `start` and has this shape: the lists have one length, and each end is below 2 ^ 64
abbrev pub is_region : List ℕ → List ℕ → Bool
is_region start shape = pointwise (λ first extent. nat_lt (first + extent) (2 ^ 64)) start shape

abbrev pub region_at : List ℕ → List ℕ → Option Box
region_at start shape = if is_region start shape then Some (box_from start shape) else None

-- the region of two words, its start and its shape: they are as long, and each end is below 2 ^ 64
abbrev pub region_of : List ℕ → List ℕ → Option Box
region_of start shape = do
  start ← numbers_in_word start
  shape ← numbers_in_word shape
  region_at start shape
