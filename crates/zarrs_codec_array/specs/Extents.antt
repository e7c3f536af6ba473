-- The entries of the codec `reshape`.
use Rattle.std.specs.Prelude.{ℕ, ◌^◌, Bool, true, false, ◌&&◌, not, nat_lt, nat_le, ◌==◌, List, [], ◌∷◌, map, Option}
use Rattle.std.specs.Prelude.{Some, None, option_map, option_and_then, if◌then◌else◌}
use Rattle.std.specs.List.{flat_map, list_any, count_by}
use Rattle.std.specs.Int.NonZero.{non_zero_u64_get}
use Rattle.zarrs_codec_array.specs.Arrays.{Extent, size, product_of, rest, named_extent, names_within}
use Rattle.zarrs_codec_array.specs.declared.reshape.ReshapeExtent.{ReshapeExtent}
use Rattle.zarrs_codec_array.specs.declared.reshape.ReshapeExtent.TheVariants as code

-- the dimensions that an entry names
abbrev pub dimensions_in : Extent → List ℕ
dimensions_in (size n) = []
dimensions_in (product_of dimensions) = dimensions
dimensions_in rest = []

-- whether the entry is what is left
abbrev pub is_rest : Extent → Bool
is_rest (size n) = false
is_rest (product_of dimensions) = false
is_rest rest = true

-- whether no number is in the list twice
abbrev pub are_distinct : List ℕ → Bool
are_distinct [] = true
are_distinct (n ∷ ns) = not (list_any (λ m. n == m) ns) && are_distinct ns

-- whether the entries name no dimension twice, and at most one of them is what is left
abbrev pub is_reshape : List Extent → Bool
is_reshape entries = are_distinct (flat_map dimensions_in entries) && nat_le (count_by is_rest entries) 1

-- ---- the entries of the code

abbrev pub extent_view : ReshapeExtent → Extent
extent_view (code.Size n) = size (non_zero_u64_get n)
extent_view (code.ProductOf dimensions) = product_of dimensions.items
extent_view code.Rest = rest

abbrev pub extents_view : List ReshapeExtent → List Extent
extents_view entries = map extent_view entries

-- ---- the encoded shape, entry by entry

-- the extent of an entry, if the shape has its dimensions and it fits u64
abbrev pub fitting_extent : List ℕ → ℕ → Extent → Option ℕ
fitting_extent s left e = if names_within s e && nat_lt (named_extent s left e) (2 ^ 64) then Some (named_extent s left e) else None

-- the values, if each is present
abbrev pub all_some : {A : Type 0} → List (Option A) → Option (List A)
all_some [] = Some []
all_some (o ∷ os) = option_and_then (λ a. option_map (λ more. a ∷ more) (all_some os)) o

abbrev pub fitting_shape : List ℕ → ℕ → List Extent → Option (List ℕ)
fitting_shape s left entries = all_some (map (fitting_extent s left) entries)
