-- The box that two boxes share, and the one that is cut, one dimension after another.
use Rattle.std.proofs.Common.{◌≡◌, ℕ, ◌+◌, ◌-◌, ◌^◌, ◌<◌, min, max, List, [], ◌∷◌, ◌++◌, length, slice_index, sym, ap, ◌∙◌, arith, below_more}
use Rattle.std.proofs.lemmas.List.{ext_get_or, length_push, get_or_push, get_or_append_left}
use Rattle.zarrs_subset.specs.Boxes.{EndsFit, ends, overlap_start, overlap_extents, zip_with}
use Rattle.zarrs_subset.proofs.Overlaps.{EndsFit-below, length-overlap_extents, length-zip_with, zip_with-from}
use Rattle.zarrs_subset.proofs.Parts.{overlap_extents-at, zip_with-at}

-- what the first `count` dimensions share
pub record AreShared (S X T Y start shape : List ℕ) (count : ℕ) : Type 0 where
  pub start_len : length start ≡ count
  pub shape_len : length shape ≡ count
  pub start_at : (k : ℕ) → k < count → slice_index start k ≡ max (slice_index S k) (slice_index T k)
  pub shape_at : (k : ℕ) → k < count
      → slice_index shape k ≡ min (slice_index S k + slice_index X k) (slice_index T k + slice_index Y k) - max (slice_index S k) (slice_index T k)
  pub other_ends : (k : ℕ) → k < count → slice_index T k + slice_index Y k < 2 ^ 64

-- one dimension more
pub shared_more : (S X T Y start shape new_start new_shape : List ℕ) (count first extent : ℕ) → AreShared S X T Y start shape count
    → new_start ≡ start ++ first ∷ [] → new_shape ≡ shape ++ extent ∷ []
    → first ≡ max (slice_index S count) (slice_index T count)
    → extent ≡ min (slice_index S count + slice_index X count) (slice_index T count + slice_index Y count) - max (slice_index S count) (slice_index T count)
    → slice_index T count + slice_index Y count < 2 ^ 64 → AreShared S X T Y new_start new_shape (count + 1)
shared_more S X T Y start shape new_start new_shape count first extent shared start_is shape_is first_is extent_is end_fits = rw (start_is, shape_is) (record {
  start_len = length_push start first ∙ ap (λ n. n + 1) shared.start_len;
  shape_len = length_push shape extent ∙ ap (λ n. n + 1) shared.shape_len;
  start_at = below_more _ count
      (λ k below. get_or_append_left start (first ∷ []) 0 k (omega (arith, shared.start_len)) ∙ shared.start_at k below)
      (get_or_push start first 0 count shared.start_len ∙ first_is);
  shape_at = below_more _ count
      (λ k below. get_or_append_left shape (extent ∷ []) 0 k (omega (arith, shared.shape_len)) ∙ shared.shape_at k below)
      (get_or_push shape extent 0 count shared.shape_len ∙ extent_is);
  other_ends = below_more _ count shared.other_ends end_fits;
})

pub other_ends_fit : (S X T Y start shape : List ℕ) (count : ℕ) → length T ≡ length Y → count ≡ length T → AreShared S X T Y start shape count → EndsFit T Y
other_ends_fit S X T Y start shape count long all shared = EndsFit-below T Y long (λ k below. shared.other_ends k (omega arith))

-- all dimensions
pub all_starts : (S X T Y start shape : List ℕ) (count : ℕ) → length S ≡ length T → count ≡ length S → AreShared S X T Y start shape count
    → start ≡ overlap_start S T
all_starts S X T Y start shape count same all shared =
    zip_with-from (λ s t. max s t) S T start same (shared.start_len ∙ all) (λ k below. shared.start_at k (omega arith))

pub all_extents : (S X T Y start shape : List ℕ) (count : ℕ) → length S ≡ length X → length T ≡ length Y → length S ≡ length T → count ≡ length S
    → AreShared S X T Y start shape count → shape ≡ overlap_extents S X T Y
all_extents S X T Y start shape count long other_long same all shared =
    let len = length-overlap_extents S X T Y long other_long same in
    ext_get_or 0 shape (overlap_extents S X T Y) (omega (arith, shared.shape_len))
    (λ k below. shared.shape_at k (omega (arith, shared.shape_len))
    ∙ sym (overlap_extents-at S X T Y k long other_long same (omega (arith, shared.shape_len))))

-- ---- a box whose start and end are cut

-- what the first `count` dimensions of the cut box are
pub record AreCut (S X E start shape : List ℕ) (count : ℕ) : Type 0 where
  pub start_len : length start ≡ count
  pub shape_len : length shape ≡ count
  pub start_at : (k : ℕ) → k < count → slice_index start k ≡ min (slice_index S k) (slice_index E k)
  pub shape_at : (k : ℕ) → k < count
      → slice_index shape k ≡ min (slice_index S k + slice_index X k) (slice_index E k) - min (slice_index S k) (slice_index E k)

-- one dimension more
pub cut_more : (S X E start shape new_start new_shape : List ℕ) (count first extent : ℕ) → AreCut S X E start shape count
    → new_start ≡ start ++ first ∷ [] → new_shape ≡ shape ++ extent ∷ []
    → first ≡ min (slice_index S count) (slice_index E count)
    → extent ≡ min (slice_index S count + slice_index X count) (slice_index E count) - min (slice_index S count) (slice_index E count)
    → AreCut S X E new_start new_shape (count + 1)
cut_more S X E start shape new_start new_shape count first extent cut start_is shape_is first_is extent_is = rw (start_is, shape_is) (record {
  start_len = length_push start first ∙ ap (λ n. n + 1) cut.start_len;
  shape_len = length_push shape extent ∙ ap (λ n. n + 1) cut.shape_len;
  start_at = below_more _ count
      (λ k below. get_or_append_left start (first ∷ []) 0 k (omega (arith, cut.start_len)) ∙ cut.start_at k below)
      (get_or_push start first 0 count cut.start_len ∙ first_is);
  shape_at = below_more _ count
      (λ k below. get_or_append_left shape (extent ∷ []) 0 k (omega (arith, cut.shape_len)) ∙ cut.shape_at k below)
      (get_or_push shape extent 0 count cut.shape_len ∙ extent_is);
})

-- all dimensions
pub cut_starts : (S X E start shape : List ℕ) (count : ℕ) → length S ≡ length E → count ≡ length S → AreCut S X E start shape count
    → start ≡ zip_with (λ s b. min s b) S E
cut_starts S X E start shape count same all cut =
    zip_with-from (λ s b. min s b) S E start same (cut.start_len ∙ all) (λ k below. cut.start_at k (omega arith))

pub cut_extents : (S X E start shape : List ℕ) (count : ℕ) → length S ≡ length X → length S ≡ length E → count ≡ length S
    → AreCut S X E start shape count
    → shape ≡ zip_with (λ e s. e - s) (zip_with (λ e b. min e b) (ends S X) E) (zip_with (λ s b. min s b) S E)
cut_extents S X E start shape count long same all cut =
    let ends_len : length (ends S X) ≡ length S = length-zip_with (λ s e. s + e) S X long in
    let cut_len : length (zip_with (λ e b. min e b) (ends S X) E) ≡ length S = length-zip_with (λ e b. min e b) (ends S X) E (ends_len ∙ same) ∙ ends_len in
    let start_len : length (zip_with (λ s b. min s b) S E) ≡ length S = length-zip_with (λ s b. min s b) S E same in
    zip_with-from (λ e s. e - s) _ _ shape (cut_len ∙ sym start_len) (cut.shape_len ∙ all ∙ sym cut_len)
    (λ k below.
    let inside : k < length S = omega arith in
    let end_is : slice_index (ends S X) k ≡ slice_index S k + slice_index X k = zip_with-at (λ s e. s + e) S X k inside (omega arith) in
    let cut_is : slice_index (zip_with (λ e b. min e b) (ends S X) E) k ≡ min (slice_index (ends S X) k) (slice_index E k) =
    zip_with-at (λ e b. min e b) (ends S X) E k (omega arith) (omega arith) in
    let start_is : slice_index (zip_with (λ s b. min s b) S E) k ≡ min (slice_index S k) (slice_index E k) = zip_with-at (λ s b. min s b) S E k inside (omega arith) in
    omega (arith, cut.shape_at k (omega arith), cut_is, end_is, start_is))
