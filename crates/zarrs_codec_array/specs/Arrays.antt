-- What codecs that make an array of an array mean.
use Rattle.std.specs.Prelude.{◌≡◌, ℕ, ◌/◌, ◌^◌, Bool, true, List, [], ◌∷◌, length, map, slice_index, slice_index_or}
use Rattle.std.specs.Prelude.{nat_lt, ◌==◌, ◌&&◌, if◌then◌else◌}
use Rattle.std.specs.List.{list_all}
use Rattle.zarrs_data_type.specs.Cell.{Cell, none}
use Rattle.zarrs_subset.specs.Boxes.{position_count, place}
use Rattle.zarrs_subset.specs.Rearranged.{made_of}
use Rattle.zarrs_codec_array.specs.Orders.{permuted, inverse}

-- A codec that makes an array of an array, as functions of values: the cells, in row-major order, of an array of
-- one shape become those of an array of another shape.
pub record ArrayMeaning : Type 0 where
  -- whether the codec takes arrays of this shape
  pub fits : (shape : List ℕ) → Bool
  -- the shape of the encoded array
  pub shape : (shape : List ℕ) → List ℕ
  -- the cells of the encoded array, from the shape and the cells of the decoded one
  pub forward : (shape : List ℕ) (cells : List Cell) → List Cell
  -- the cells of the decoded array, from its shape and the cells of the encoded one
  pub back : (shape : List ℕ) (cells : List Cell) → List Cell

-- the law of such a codec
pub record IsLawfulArray (m : ArrayMeaning) : Type 0 where
  -- the encoded array has the same number of positions
  pub count : (s : List ℕ) → m.fits s ≡ true → position_count (m.shape s) ≡ position_count s
  -- decoding returns what was encoded
  pub round_trip : (s : List ℕ) (cs : List Cell) → m.fits s ≡ true → length cs ≡ position_count s → m.back s (m.forward s cs) ≡ cs
  -- the same number of cells, both ways
  pub forward_len : (s : List ℕ) (cs : List Cell) → m.fits s ≡ true → length cs ≡ position_count s → length (m.forward s cs) ≡ position_count s
  pub back_len : (s : List ℕ) (cs : List Cell) → m.fits s ≡ true → length cs ≡ position_count s → length (m.back s cs) ≡ position_count s
  -- a fact of all cells holds of all cells afterwards
  pub forward_all : (v : Cell → Bool) (s : List ℕ) (cs : List Cell) → m.fits s ≡ true → length cs ≡ position_count s → list_all v cs ≡ true
      → list_all v (m.forward s cs) ≡ true
  pub back_all : (v : Cell → Bool) (s : List ℕ) (cs : List Cell) → m.fits s ≡ true → length cs ≡ position_count s → list_all v cs ≡ true
      → list_all v (m.back s cs) ≡ true

-- no codec: the array stays
abbrev pub same_array : ArrayMeaning
same_array = record { fits = λ s. true; shape = λ s. s; forward = λ s cs. cs; back = λ s cs. cs }

-- one codec after another
abbrev pub and_then : ArrayMeaning → ArrayMeaning → ArrayMeaning
and_then a b = record {
  fits = λ s. a.fits s && b.fits (a.shape s);
  shape = λ s. b.shape (a.shape s);
  forward = λ s cs. b.forward (a.shape s) (a.forward s cs);
  back = λ s cs. a.back s (b.back (a.shape s) cs);
}

-- the cells of an array of the shape `target`: at the position q that of the array of the shape `source` at the
-- position `permuted way q`
abbrev pub rearranged : List ℕ → List ℕ → List ℕ → List Cell → List Cell
rearranged target source way cs = made_of (λ q. slice_index_or cs (place source (permuted way q)) none) target

-- `transpose`: dimension i of the encoded array is dimension `order[i]` of the decoded one
abbrev pub transposed : List ℕ → ArrayMeaning
transposed order = record {
  fits = λ s. length order == length s;
  shape = λ s. permuted order s;
  forward = λ s cs. rearranged (permuted order s) s (inverse order) cs;
  back = λ s cs. rearranged s (permuted order s) order cs;
}

-- a codec that makes an array of another shape, and keeps its cells in their order
abbrev pub keeping_cells : (List ℕ → Bool) → (List ℕ → List ℕ) → ArrayMeaning
keeping_cells fits shape = record { fits = fits; shape = shape; forward = λ s cs. cs; back = λ s cs. cs }

-- an entry of the shape of `reshape`: a size, dimensions of the decoded array, or what is left
pub data Extent : Type 0 where
  size : ℕ → Extent
  product_of : List ℕ → Extent
  rest : Extent

-- the extent that an entry names: that of dimensions is the product of theirs, and `left` is what is left
abbrev pub named_extent : List ℕ → ℕ → Extent → ℕ
named_extent s left (size n) = n
named_extent s left (product_of dimensions) = position_count (map (λ j. slice_index s j) dimensions)
named_extent s left rest = left

abbrev pub named_shape : List ℕ → ℕ → List Extent → List ℕ
named_shape s left entries = map (named_extent s left) entries

-- what the other entries leave of the number of cells
abbrev pub extent_left : List ℕ → List Extent → ℕ
extent_left s entries = position_count s / position_count (named_shape s 1 entries)

abbrev pub reshape_shape : List Extent → List ℕ → List ℕ
reshape_shape entries s = named_shape s (extent_left s entries) entries

-- whether the entry names dimensions of the shape alone
abbrev pub names_within : List ℕ → Extent → Bool
names_within s (product_of dimensions) = list_all (λ j. nat_lt j (length s)) dimensions
names_within s _ = true

-- `reshape`: fits if the shape has the dimensions that it names, its extents fit u64, the array has fewer than 2^64
-- cells, and the encoded array has as many
abbrev pub reshaped : List Extent → ArrayMeaning
reshaped entries =
    keeping_cells
    (λ s. list_all (names_within s) entries && list_all (λ n. nat_lt n (2 ^ 64)) (reshape_shape entries s)
    && nat_lt (position_count s) (2 ^ 64) && (position_count (reshape_shape entries s) == position_count s))
    (reshape_shape entries)

-- the extents except those that are 1
abbrev pub squeeze_shape : List ℕ → List ℕ
squeeze_shape [] = []
squeeze_shape (n ∷ s) = if n == 1 then squeeze_shape s else n ∷ squeeze_shape s

-- `squeeze`: the dimensions of extent 1 go
abbrev pub squeezed : ArrayMeaning
squeezed = keeping_cells (λ s. true) squeeze_shape
