-- Regions that are cut along a dimension.
use Rattle.std.proofs.Common.{◌≡◌, ℕ, zero, suc, ◌+◌, ◌-◌, ◌*◌, ◌^◌, ◌<◌, ◌≤◌, List, [], ◌∷◌, ◌++◌, length, map, slice_index, slice_set, max, refl, sym, ap, ◌∙◌, inl, inr, append-nil, arith}
use Rattle.std.specs.List.{flat_map, range_with_len}
use Rattle.std.proofs.lemmas.Bool.{cases_eq}
use Rattle.std.proofs.lemmas.List.{map-append, length-set, get_or-set_same, get_or-set_other}
use Rattle.std.proofs.lemmas.List.Concat.{flat_map-append}
use Rattle.zarrs_subset.specs.Boxes.{positions_from, position_count, EndsFit}
use Rattle.zarrs_subset.specs.Refusals.{RefusesStartShape}
use Rattle.zarrs_subset.specs.declared.error.ArraySubsetError.{ArraySubsetError}
use Rattle.zarrs_subset.specs.declared.error.ArraySubsetError.TheVariants.{IncompatibleDimensionality, EndOverflow, EndBelowStart, StartBelowOffset, OutOfMemory}
use Rattle.zarrs_subset.specs.Regions.{Box, positions}
use Rattle.zarr_cells.specs.Rows.{AreOnes}

range_split : (s a b : ℕ) → range_with_len s a ++ range_with_len (s + a) b ≡ range_with_len s (a + b)
range_split s zero b =
    let start : s + 0 ≡ s = omega arith in
    let long : b ≡ 0 + b = omega arith in
    ap (λ t. range_with_len t b) start ∙ ap (range_with_len s) long
range_split s (suc a) b =
    let shifted : s + suc a ≡ s + 1 + a = omega arith in
    let longer : suc (a + b) ≡ suc a + b = omega arith in
    ap (λ t. s ∷ (range_with_len (s + 1) a ++ range_with_len t b)) shifted ∙ ap (λ t. s ∷ t) (range_split (s + 1) a b) ∙ ap (range_with_len s) longer

-- the first rows, and then the others, have the positions of the box
rows_make : (s e rows : ℕ) (start shape : List ℕ) → rows ≤ e
    → positions_from (s ∷ start) (rows ∷ shape) ++ positions_from ((s + rows) ∷ start) ((e - rows) ∷ shape) ≡ positions_from (s ∷ start) (e ∷ shape)
rows_make s e rows start shape h =
    let all : rows + (e - rows) ≡ e = omega arith in
    sym (flat_map-append (λ (i : ℕ). map (λ (p : List ℕ). i ∷ p) (positions_from start shape)) (range_with_len s rows) (range_with_len (s + rows) (e - rows)))
    ∙ ap (λ r. flat_map (λ (i : ℕ). map (λ (p : List ℕ). i ∷ p) (positions_from start shape)) r) (range_split s rows (e - rows) ∙ ap (range_with_len s) all)

-- a box of one row
one_row : (s : ℕ) (start shape : List ℕ) → positions_from (s ∷ start) (1 ∷ shape) ≡ map (λ (p : List ℕ). s ∷ p) (positions_from start shape)
one_row s start shape = append-nil (map (λ (p : List ℕ). s ∷ p) (positions_from start shape))

-- rows that are cut along an axis before which each extent is 1
cut_makes : (start shape : List ℕ) (axis rows : ℕ) → length shape ≡ length start → axis < length start → AreOnes shape axis → rows ≤ slice_index shape axis
    → positions_from (slice_set start axis (slice_index start axis)) (slice_set shape axis rows)
    ++ positions_from (slice_set start axis (slice_index start axis + rows)) (slice_set shape axis (slice_index shape axis - rows)) ≡ positions_from start shape
cut_makes [] shape axis rows same below ones fits = absurd (omega arith)
cut_makes (s ∷ start) [] axis rows same below ones fits = absurd (omega (arith, same))
cut_makes (s ∷ start) (e ∷ shape) zero rows same below ones fits = rows_make s e rows start shape fits
cut_makes (s ∷ start) (e ∷ shape) (suc k) rows same below ones fits =
    let one : e ≡ 1 = ones zero (omega arith) in
    let low : List ℕ = slice_set start k (slice_index start k) in
    let high : List ℕ = slice_set start k (slice_index start k + rows) in
    let first : List ℕ = slice_set shape k rows in
    let others : List ℕ = slice_set shape k (slice_index shape k - rows) in
    ap (λ (n : ℕ). positions_from (s ∷ low) (n ∷ first) ++ positions_from (s ∷ high) (n ∷ others)) one
    ∙ ap (λ (l : List (List ℕ)). l ++ positions_from (s ∷ high) (1 ∷ others)) (one_row s low first)
    ∙ ap (λ (l : List (List ℕ)). map (λ (p : List ℕ). s ∷ p) (positions_from low first) ++ l) (one_row s high others)
    ∙ sym (map-append (λ (p : List ℕ). s ∷ p) (positions_from low first) (positions_from high others))
    ∙ ap (map (λ (p : List ℕ). s ∷ p)) (cut_makes start shape k rows (omega (arith, same)) (omega arith) (λ j under. ones (suc j) (omega arith)) fits)
    ∙ sym (one_row s start shape) ∙ ap (λ (n : ℕ). positions_from (s ∷ start) (n ∷ shape)) (sym one)

-- a region that is cut along the axis after so many rows
pub split_makes : (region band rest : Box) (starts extents : List ℕ) (axis rows : ℕ)
    → starts ≡ region.start → extents ≡ region.shape → length region.shape ≡ length region.start → axis < length region.start → AreOnes region.shape axis
    → rows < slice_index region.shape axis
    → band.start ≡ slice_set region.start axis (slice_index starts axis) → band.shape ≡ slice_set region.shape axis rows
    → rest.start ≡ slice_set region.start axis (slice_index starts axis + rows) → rest.shape ≡ slice_set region.shape axis (slice_index extents axis - rows)
    → positions band ++ positions rest ≡ positions region
split_makes region band rest starts extents axis rows starts_are extents_are same inside ones fewer band_start band_shape rest_start rest_shape =
    ap (λ (l : List ℕ). positions_from l band.shape ++ positions rest) (band_start ∙ ap (λ (l : List ℕ). slice_set region.start axis (slice_index l axis)) starts_are)
    ∙ ap (λ (l : List ℕ). positions_from (slice_set region.start axis (slice_index region.start axis)) l ++ positions rest) band_shape
    ∙ ap (λ (l : List ℕ). positions_from (slice_set region.start axis (slice_index region.start axis)) (slice_set region.shape axis rows) ++ positions_from l rest.shape)
    (rest_start ∙ ap (λ (l : List ℕ). slice_set region.start axis (slice_index l axis + rows)) starts_are)
    ∙ ap (λ (l : List ℕ). positions_from (slice_set region.start axis (slice_index region.start axis)) (slice_set region.shape axis rows)
    ++ positions_from (slice_set region.start axis (slice_index region.start axis + rows)) l)
    (rest_shape ∙ ap (λ (l : List ℕ). slice_set region.shape axis (slice_index l axis - rows)) extents_are)
    ∙ cut_makes region.start region.shape axis rows same inside ones (omega arith)

-- a box with another extent that is not 0
pub full_set : (shape made : List ℕ) (axis rows : ℕ) → made ≡ slice_set shape axis rows → axis < length shape → 1 ≤ rows
    → ((k : ℕ) → k < length shape → slice_index shape k ≡ 0 → ⊥) → (k : ℕ) → k < length made → slice_index made k ≡ 0 → ⊥
full_set shape made axis rows is inside some full k below nothing =
    let long : length made ≡ length shape = ap (λ (l : List ℕ). length l) is ∙ length-set shape axis rows in
    elim (cases_eq k axis) [
      | inl at ↦ (let none : rows ≡ 0 = sym (get_or-set_same shape axis rows 0 inside) ∙ ap (λ (l : List ℕ). slice_index l axis) (sym is) ∙ ap (slice_index made) (sym at) ∙ nothing in omega arith)
      | inr other ↦ full k (omega arith) (sym (get_or-set_other shape axis k rows 0 other) ∙ ap (λ (l : List ℕ). slice_index l k) (sym is) ∙ nothing)
    ]

-- a box of ones has one position
count_ones : (shape : List ℕ) (axis : ℕ) → length shape ≤ axis → AreOnes shape axis → position_count shape ≡ 1
count_ones [] axis past ones = refl
count_ones (n ∷ shape) zero past ones = absurd (omega arith)
count_ones (n ∷ shape) (suc axis) past ones =
    let one : n ≡ 1 = ones zero (omega arith) in
    let rest = count_ones shape axis (omega arith) (λ k below. ones (suc k) (omega arith)) in
    ap (λ (m : ℕ). m * position_count shape) one ∙ omega (arith, rest)

pub count_one : (shape : List ℕ) (axis most : ℕ) → length shape ≤ axis → AreOnes shape axis → position_count shape ≤ max 1 most
count_one shape axis most past ones = let one = count_ones shape axis past ones in omega (arith, one)

-- ---- refusals

-- a box that gets another start and another extent along one axis has no end past 64 bits but there
pub end_passes : (start shape : List ℕ) (axis first rows : ℕ) (why : ArraySubsetError) → length start ≡ length shape → EndsFit start shape → axis < length start
    → RefusesStartShape (slice_set start axis first) (slice_set shape axis rows) why → 2 ^ 64 ≤ first + rows
end_passes start shape axis first rows (IncompatibleDimensionality error) long fit inside refused =
    absurd (refused.0 (length-set start axis first ∙ long ∙ sym (length-set shape axis rows)))
end_passes start shape axis first rows EndOverflow long fit inside refused =
    let k = refused.1.0 in
    let large : 2 ^ 64 ≤ slice_index (slice_set start axis first) k + slice_index (slice_set shape axis rows) k = refused.1.2 in
    elim (cases_eq k axis) [
      | inl at ↦
          let one : slice_index (slice_set start axis first) k ≡ first = ap (slice_index (slice_set start axis first)) at ∙ get_or-set_same start axis first 0 inside in
          let other : slice_index (slice_set shape axis rows) k ≡ rows = ap (slice_index (slice_set shape axis rows)) at ∙ get_or-set_same shape axis rows 0 (omega arith) in
          omega arith
      | inr apart ↦
          let one : slice_index (slice_set start axis first) k ≡ slice_index start k = get_or-set_other start axis k first 0 apart in
          let other : slice_index (slice_set shape axis rows) k ≡ slice_index shape k = get_or-set_other shape axis k rows 0 apart in
          let small : slice_index start k + slice_index shape k < 2 ^ 64 = fit k in
          absurd (omega arith)
    ]
end_passes start shape axis first rows EndBelowStart long fit inside refused = absurd refused
end_passes start shape axis first rows StartBelowOffset long fit inside refused = absurd refused
end_passes start shape axis first rows OutOfMemory long fit inside refused = absurd refused
