-- Boxes that lie in a region, as they lie in a box of the same shape elsewhere.
use Rattle.std.proofs.Common.{◌≡◌, ◌&&◌, ℕ, suc, ◌+◌, ◌-◌, ◌<◌, ◌≤◌, ◌^◌, false, max, min, List, [], ◌∷◌, length, replicate, inl, inr, refl, sym, ap, ◌∙◌, subst, arith}
use Rattle.std.specs.Prelude.{slice_index}
use Rattle.std.proofs.lemmas.Bool.{cases_Bool, false≢true}
use Rattle.std.proofs.lemmas.Bool.Decides.{nat_tests}
use Rattle.zarrs_subset.specs.Boxes.{InShape, in_range, is_within, offset_by, offset_from, overlap_start, overlap_extents, place, unravel, zip_with}
use Rattle.zarrs_subset.specs.Regions.{Box, Holds, IsLong, box_at_origin, in_box, overlap_of, place_in, seen_from, shifted_box, LiesInBox}
use Rattle.zarrs_subset.proofs.Bytes.{holds_along}
use Rattle.zarrs_subset.proofs.Overlaps.{in_box-overlap, length-zip_with}
use Rattle.zarrs_subset.proofs.Parts.{zip_with-at}
use Rattle.zarrs_subset.proofs.Positions.{in_box-offset_by, offset_by-from, offset_from-by, offset_from-in, unravel-place}
use Rattle.zarrs_subset.proofs.Inside.{holds_inside}

-- ---- lists of numbers, one for each dimension

-- each number of the first is at most that of the second
abbrev BelowEach : List ℕ → List ℕ → Type 0
BelowEach R S = (k : ℕ) → k < length S → slice_index R k ≤ slice_index S k

-- the corner of a box, seen from one corner and moved to another
abbrev moved_start : List ℕ → List ℕ → List ℕ → List ℕ
moved_start R T S = zip_with (λ s t. s + t) (zip_with (λ s r. s - r) S R) T

-- a position of the box, by either corner
moved_position : (R T S p : List ℕ) → length R ≡ length S → length T ≡ length S → length p ≡ length S → BelowEach R S → BelowEach S p
    → offset_by (moved_start R T S) (offset_from S p) ≡ offset_by T (offset_from R p)
moved_position [] [] [] p same other long below at = refl
moved_position [] [] (s ∷ S) p same other long below at = absurd (omega arith)
moved_position [] (t ∷ T) S p same other long below at = absurd (omega arith)
moved_position (r ∷ R) T [] p same other long below at = absurd (omega arith)
moved_position (r ∷ R) [] (s ∷ S) p same other long below at = absurd (omega arith)
moved_position (r ∷ R) (t ∷ T) (s ∷ S) [] same other long below at = absurd (omega arith)
moved_position (r ∷ R) (t ∷ T) (s ∷ S) (i ∷ p) same other long below at =
    let low : r ≤ s = below 0 (omega arith) in
    let here : s ≤ i = at 0 (omega arith) in
    let first : s - r + t + (i - s) ≡ t + (i - r) = omega arith in
    let rest = moved_position R T S p (omega arith) (omega arith) (omega arith) (λ k lt. below (suc k) (omega arith)) (λ k lt. at (suc k) (omega arith)) in
    ap (λ x. x ∷ offset_by (moved_start R T S) (offset_from S p)) first ∙ ap (λ l. (t + (i - r)) ∷ l) rest

in_range-moved : (r t s y i : ℕ) → r ≤ s → r ≤ i → in_range (s - r + t) y (t + (i - r)) ≡ in_range s y i
in_range-moved r t s y i low here = grind (arith, nat_tests)

within-moved : (R T S Y p : List ℕ) → length R ≡ length S → length T ≡ length S → length Y ≡ length S → length p ≡ length S → BelowEach R S → BelowEach R p
    → is_within (moved_start R T S) Y (offset_by T (offset_from R p)) ≡ is_within S Y p
within-moved [] [] [] Y [] same other extents long below at = refl
within-moved [] [] [] Y (i ∷ p) same other extents long below at = absurd (omega arith)
within-moved [] [] (s ∷ S) Y p same other extents long below at = absurd (omega arith)
within-moved [] (t ∷ T) S Y p same other extents long below at = absurd (omega arith)
within-moved (r ∷ R) T [] Y p same other extents long below at = absurd (omega arith)
within-moved (r ∷ R) [] (s ∷ S) Y p same other extents long below at = absurd (omega arith)
within-moved (r ∷ R) (t ∷ T) (s ∷ S) [] p same other extents long below at = absurd (omega arith)
within-moved (r ∷ R) (t ∷ T) (s ∷ S) (y ∷ Y) [] same other extents long below at = absurd (omega arith)
within-moved (r ∷ R) (t ∷ T) (s ∷ S) (y ∷ Y) (i ∷ p) same other extents long below at =
    let first = in_range-moved r t s y i (below 0 (omega arith)) (at 0 (omega arith)) in
    let rest = within-moved R T S Y p (omega arith) (omega arith) (omega arith) (omega arith) (λ k lt. below (suc k) (omega arith)) (λ k lt. at (suc k) (omega arith)) in
    ap (λ b. b && is_within (moved_start R T S) Y (offset_by T (offset_from R p))) first ∙ ap (λ b. in_range s y i && b) rest

-- the same, seen from the corner of a box that it lies in
in_range-seen : (c s y i : ℕ) → c ≤ s → c ≤ i → in_range (s - c) y (i - c) ≡ in_range s y i
in_range-seen c s y i low here = grind (arith, nat_tests)

within-seen : (C S Y p : List ℕ) → length C ≡ length S → length Y ≡ length S → length p ≡ length S → BelowEach C S → BelowEach C p
    → is_within (zip_with (λ s c. s - c) S C) Y (offset_from C p) ≡ is_within S Y p
within-seen [] [] Y [] same extents long below at = refl
within-seen [] [] Y (i ∷ p) same extents long below at = absurd (omega arith)
within-seen [] (s ∷ S) Y p same extents long below at = absurd (omega arith)
within-seen (c ∷ C) [] Y p same extents long below at = absurd (omega arith)
within-seen (c ∷ C) (s ∷ S) [] p same extents long below at = absurd (omega arith)
within-seen (c ∷ C) (s ∷ S) (y ∷ Y) [] same extents long below at = absurd (omega arith)
within-seen (c ∷ C) (s ∷ S) (y ∷ Y) (i ∷ p) same extents long below at =
    let first = in_range-seen c s y i (below 0 (omega arith)) (at 0 (omega arith)) in
    let rest = within-seen C S Y p (omega arith) (omega arith) (omega arith) (λ k lt. below (suc k) (omega arith)) (λ k lt. at (suc k) (omega arith)) in
    ap (λ b. b && is_within (zip_with (λ s c. s - c) S C) Y (offset_from C p)) first ∙ ap (λ b. in_range s y i && b) rest

seen_position : (C S p : List ℕ) → length C ≡ length S → length p ≡ length S → BelowEach C S → BelowEach S p → offset_from (zip_with (λ s c. s - c) S C) (offset_from C p) ≡ offset_from S p
seen_position [] [] p same long below at = refl
seen_position [] (s ∷ S) p same long below at = absurd (omega arith)
seen_position (c ∷ C) [] p same long below at = absurd (omega arith)
seen_position (c ∷ C) (s ∷ S) [] same long below at = absurd (omega arith)
seen_position (c ∷ C) (s ∷ S) (i ∷ p) same long below at =
    let low : c ≤ s = below 0 (omega arith) in
    let here : s ≤ i = at 0 (omega arith) in
    let first : i - c - (s - c) ≡ i - s = omega arith in
    let rest = seen_position C S p (omega arith) (omega arith) (λ k lt. below (suc k) (omega arith)) (λ k lt. at (suc k) (omega arith)) in
    ap (λ x. x ∷ offset_from (zip_with (λ s c. s - c) S C) (offset_from C p)) first ∙ ap (λ l. (i - s) ∷ l) rest

-- a position, seen from the origin
seen_from_origin : (start shape p : List ℕ) → length start ≡ length shape → length p ≡ length start → offset_from (replicate (length shape) 0) (offset_from start p) ≡ offset_from start p
seen_from_origin [] [] p long same = refl
seen_from_origin [] (n ∷ shape) p long same = absurd (omega arith)
seen_from_origin (s ∷ start) [] p long same = absurd (omega arith)
seen_from_origin (s ∷ start) (n ∷ shape) [] long same = absurd (omega arith)
seen_from_origin (s ∷ start) (n ∷ shape) (i ∷ p) long same =
    let first : i - s - 0 ≡ i - s = omega arith in
    ap (λ x. x ∷ offset_from (replicate (length shape) 0) (offset_from start p)) first ∙ ap (λ l. (i - s) ∷ l) (seen_from_origin start shape p (omega arith) (omega arith))

moved_from_origin : (start shape p : List ℕ) → length start ≡ length shape → length p ≡ length start → offset_by (replicate (length shape) 0) (offset_from start p) ≡ offset_from start p
moved_from_origin [] [] p long same = refl
moved_from_origin [] (n ∷ shape) p long same = absurd (omega arith)
moved_from_origin (s ∷ start) [] p long same = absurd (omega arith)
moved_from_origin (s ∷ start) (n ∷ shape) [] long same = absurd (omega arith)
moved_from_origin (s ∷ start) (n ∷ shape) (i ∷ p) long same =
    let first : 0 + (i - s) ≡ i - s = omega arith in
    ap (λ x. x ∷ offset_by (replicate (length shape) 0) (offset_from start p)) first ∙ ap (λ l. (i - s) ∷ l) (moved_from_origin start shape p (omega arith) (omega arith))

-- a box that lies in another is all that they share
start_inside : (R C : List ℕ) → length R ≡ length C → BelowEach R C → overlap_start R C ≡ C
start_inside [] [] same below = refl
start_inside [] (c ∷ C) same below = absurd (omega arith)
start_inside (r ∷ R) [] same below = absurd (omega arith)
start_inside (r ∷ R) (c ∷ C) same below =
    let low : r ≤ c = below 0 (omega arith) in
    let first : max r c ≡ c = omega arith in
    ap (λ x. x ∷ overlap_start R C) first ∙ ap (λ l. c ∷ l) (start_inside R C (omega arith) (λ k lt. below (suc k) (omega arith)))

extents_inside : (R X C Y : List ℕ) → length X ≡ length R → length C ≡ length R → length Y ≡ length R → BelowEach R C
    → ((k : ℕ) → k < length C → slice_index C k + slice_index Y k ≤ slice_index R k + slice_index X k) → overlap_extents R X C Y ≡ Y
extents_inside [] X C [] extents same other below ends = let none : length C ≡ 0 = same in empty C X none
  where
    empty : (C X : List ℕ) → length C ≡ 0 → overlap_extents [] X C [] ≡ []
    empty [] X none = refl
    empty (c ∷ C) X none = absurd (omega arith)
extents_inside [] X C (y ∷ Y) extents same other below ends = absurd (omega arith)
extents_inside (r ∷ R) [] C Y extents same other below ends = absurd (omega arith)
extents_inside (r ∷ R) (x ∷ X) [] Y extents same other below ends = absurd (omega arith)
extents_inside (r ∷ R) (x ∷ X) (c ∷ C) [] extents same other below ends = absurd (omega arith)
extents_inside (r ∷ R) (x ∷ X) (c ∷ C) (y ∷ Y) extents same other below ends =
    let low : r ≤ c = below 0 (omega arith) in
    let high : c + y ≤ r + x = ends 0 (omega arith) in
    let first : min (r + x) (c + y) - max r c ≡ y = omega arith in
    ap (λ n. n ∷ overlap_extents R X C Y) first
    ∙ ap (λ l. y ∷ l) (extents_inside R X C Y (omega arith) (omega arith) (omega arith) (λ k lt. below (suc k) (omega arith)) (λ k lt. ends (suc k) (omega arith)))

-- ---- boxes

pub overlap_inside : (region chunk : Box) → IsLong region → IsLong chunk → LiesInBox chunk region → overlap_of region chunk ≡ chunk
overlap_inside region chunk long chunk_long lies =
    let below : BelowEach region.start chunk.start = λ k lt. lies.starts k (omega (arith, lies.same_length)) in
    let start = start_inside region.start chunk.start (sym lies.same_length) below in
    let extents = extents_inside region.start region.shape chunk.start chunk.shape (sym long) lies.same_length (sym chunk_long ∙ lies.same_length) below
    (λ k lt. lies.ends k (omega (arith, lies.same_length))) in
    ap (λ s. record { start = s; shape = overlap_extents region.start region.shape chunk.start chunk.shape }) start ∙ ap (λ x. record { start = chunk.start; shape = x }) extents

start_within : (R C : List ℕ) → length R ≡ length C → ((k : ℕ) → k < length R → slice_index C k ≤ slice_index R k) → overlap_start R C ≡ R
start_within [] [] same below = refl
start_within [] (c ∷ C) same below = absurd (omega arith)
start_within (r ∷ R) [] same below = absurd (omega arith)
start_within (r ∷ R) (c ∷ C) same below =
    let low : c ≤ r = below 0 (omega arith) in
    let first : max r c ≡ r = omega arith in
    ap (λ x. x ∷ overlap_start R C) first ∙ ap (λ l. r ∷ l) (start_within R C (omega arith) (λ k lt. below (suc k) (omega arith)))

extents_within : (R X C Y : List ℕ) → length X ≡ length R → length C ≡ length R → length Y ≡ length R → ((k : ℕ) → k < length R → slice_index C k ≤ slice_index R k)
    → ((k : ℕ) → k < length R → slice_index R k + slice_index X k ≤ slice_index C k + slice_index Y k) → overlap_extents R X C Y ≡ X
extents_within [] [] C Y extents same other below ends = refl
extents_within [] (x ∷ X) C Y extents same other below ends = absurd (omega arith)
extents_within (r ∷ R) [] C Y extents same other below ends = absurd (omega arith)
extents_within (r ∷ R) (x ∷ X) [] Y extents same other below ends = absurd (omega arith)
extents_within (r ∷ R) (x ∷ X) (c ∷ C) [] extents same other below ends = absurd (omega arith)
extents_within (r ∷ R) (x ∷ X) (c ∷ C) (y ∷ Y) extents same other below ends =
    let low : c ≤ r = below 0 (omega arith) in
    let high : r + x ≤ c + y = ends 0 (omega arith) in
    let first : min (r + x) (c + y) - max r c ≡ x = omega arith in
    ap (λ n. n ∷ overlap_extents R X C Y) first
    ∙ ap (λ l. x ∷ l) (extents_within R X C Y (omega arith) (omega arith) (omega arith) (λ k lt. below (suc k) (omega arith)) (λ k lt. ends (suc k) (omega arith)))

-- a region that lies in a chunk is all that they share
pub overlap_within : (region chunk : Box) → IsLong region → IsLong chunk → LiesInBox region chunk → overlap_of region chunk ≡ region
overlap_within region chunk long chunk_long lies =
    let below : (k : ℕ) → k < length region.start → slice_index chunk.start k ≤ slice_index region.start k = λ k lt. lies.starts k (omega (arith, lies.same_length)) in
    let start = start_within region.start chunk.start lies.same_length below in
    let extents = extents_within region.start region.shape chunk.start chunk.shape (sym long) (sym lies.same_length) (sym chunk_long ∙ sym lies.same_length) below
    (λ k lt. lies.ends k (omega (arith, lies.same_length))) in
    ap (λ s. record { start = s; shape = overlap_extents region.start region.shape chunk.start chunk.shape }) start ∙ ap (λ x. record { start = region.start; shape = x }) extents

-- the positions of what two boxes share are those of both
pub in_overlap : (region chunk : Box) (position : List ℕ) → IsLong region → IsLong chunk → length region.start ≡ length chunk.start → in_box (overlap_of region chunk) position ≡ in_box region position && in_box chunk position
in_overlap region chunk position long chunk_long same = in_box-overlap region.start region.shape chunk.start chunk.shape position long chunk_long same

-- a position of a box that lies in a chunk, seen from the corner of the chunk
module _ (chunk shared : Box) (chunk_long : IsLong chunk) (long : IsLong shared) (lies : LiesInBox shared chunk) (position : List ℕ) (holds : Holds shared position) where
  below_start : BelowEach chunk.start shared.start
  below_start = λ k lt. lies.starts k (omega (arith, lies.same_length))

  pub part_holds : Holds (seen_from shared chunk.start) (offset_from chunk.start position)
  part_holds =
      let at = holds_along shared position long holds in
      let below : BelowEach chunk.start position = λ k lt.
      let inside : k < length shared.start = omega (arith, at.same_length) in
      let first = below_start k inside in
      let here = at.from k inside in
      omega arith in
      within-seen chunk.start shared.start shared.shape position (sym lies.same_length) (sym long) at.same_length below_start below ∙ holds

  pub part_place : place_in (seen_from shared chunk.start) (offset_from chunk.start position) ≡ place_in shared position
  part_place =
      let at = holds_along shared position long holds in
      ap (place shared.shape) (seen_position chunk.start shared.start position (sym lies.same_length) at.same_length below_start (λ k lt. at.from k (omega (arith, at.same_length))))

-- a position of a box, seen from its corner, in a box at the origin
pub origin_place : (box : Box) (position : List ℕ) → IsLong box → Holds box position → place_in (box_at_origin box.shape) (offset_from box.start position) ≡ place_in box position
origin_place box position long holds =
    let at = holds_along box position long holds in
    ap (place box.shape) (seen_from_origin box.start box.shape position long at.same_length)

pub origin_moved : (box : Box) (position : List ℕ) → IsLong box → Holds box position
    → place_in (box_at_origin box.shape) (offset_by (box_at_origin box.shape).start (offset_from box.start position)) ≡ place_in box position
origin_moved box position long holds =
    let at = holds_along box position long holds in
    ap (place_in (box_at_origin box.shape)) (moved_from_origin box.start box.shape position long at.same_length) ∙ origin_place box position long holds

-- the position of `own` that a position of the region is, where `own` has the region's shape
abbrev pub moved_to : (own region : Box) → List ℕ → List ℕ
moved_to own region position = offset_by own.start (offset_from region.start position)

module _ (own region : Box) (own_long : IsLong own) (long : IsLong region) (same : own.shape ≡ region.shape) (position : List ℕ) (holds : Holds region position) where
  seen_in : InShape own.shape (offset_from region.start position)
  seen_in = subst (λ s. InShape s (offset_from region.start position)) (sym same) (offset_from-in region.start region.shape position long holds)

  pub moved_holds : Holds own (moved_to own region position)
  moved_holds = in_box-offset_by own.start own.shape (offset_from region.start position) own_long seen_in

  pub moved_place : place_in own (moved_to own region position) ≡ place_in region position
  moved_place =
      ap (place own.shape) (offset_from-by own.start own.shape (offset_from region.start position) own_long seen_in)
      ∙ ap (λ s. place s (offset_from region.start position)) same

  -- what has its number
  pub moved_unravel : offset_by own.start (unravel own.shape (place_in region position)) ≡ moved_to own region position
  moved_unravel =
      ap (λ s. offset_by own.start (unravel own.shape (place s (offset_from region.start position)))) (sym same)
      ∙ ap (offset_by own.start) (unravel-place own.shape (offset_from region.start position) seen_in)

-- a position of a box, by its number
pub own_unravel : (own : Box) (position : List ℕ) → IsLong own → Holds own position → offset_by own.start (unravel own.shape (place_in own position)) ≡ position
own_unravel own position long holds =
    ap (offset_by own.start) (unravel-place own.shape (offset_from own.start position) (offset_from-in own.start own.shape position long holds))
    ∙ offset_by-from own.start own.shape position long holds

-- a box that lies in the region, and where it lies in `own`
abbrev pub moved_box : (own region shared : Box) → Box
moved_box own region shared = shifted_box (seen_from shared region.start) own.start

module _ (own region shared : Box) (own_long : IsLong own) (long : IsLong region) (shared_long : IsLong shared) (same : own.shape ≡ region.shape) (lies : LiesInBox shared region) where
  own_len : length own.start ≡ length shared.start
  own_len = own_long ∙ ap length same ∙ sym long ∙ sym lies.same_length

  seen_len : length (zip_with (λ s r. s - r) shared.start region.start) ≡ length shared.start
  seen_len = length-zip_with (λ s r. s - r) shared.start region.start lies.same_length

  pub seen_start_len : length own.start ≡ length (seen_from shared region.start).start
  seen_start_len = own_len ∙ sym seen_len

  pub moved_len : length (moved_box own region shared).start ≡ length shared.start
  moved_len = length-zip_with (λ s t. s + t) (zip_with (λ s r. s - r) shared.start region.start) own.start (seen_len ∙ sym own_len) ∙ seen_len

  pub moved_long : IsLong (moved_box own region shared)
  moved_long = moved_len ∙ shared_long

  seen_at : (k : ℕ) → k < length shared.start → slice_index (zip_with (λ s r. s - r) shared.start region.start) k ≡ slice_index shared.start k - slice_index region.start k
  seen_at k lt = zip_with-at (λ s r. s - r) shared.start region.start k lt (omega (arith, lies.same_length))

  moved_at : (k : ℕ) → k < length shared.start → slice_index (moved_box own region shared).start k ≡ slice_index shared.start k - slice_index region.start k + slice_index own.start k
  moved_at k lt =
      zip_with-at (λ s t. s + t) (zip_with (λ s r. s - r) shared.start region.start) own.start k (omega (arith, seen_len)) (omega (arith, own_len))
      ∙ ap (λ n. n + slice_index own.start k) (seen_at k lt)

  ends_at : (k : ℕ) → k < length shared.start → slice_index shared.start k + slice_index shared.shape k ≤ slice_index region.start k + slice_index own.shape k
  ends_at k lt = subst (λ (x : List ℕ). slice_index shared.start k + slice_index shared.shape k ≤ slice_index region.start k + slice_index x k) (sym same) (lies.ends k (omega (arith, lies.same_length)))

  pub moved_lies : LiesInBox (moved_box own region shared) own
  moved_lies = record {
    same_length = moved_len ∙ sym own_len;
    starts = λ k lt. let below : k < length shared.start = omega (arith, own_len) in omega (arith, moved_at k below);
    ends = λ k lt.
        let below : k < length shared.start = omega (arith, own_len) in
        let first = lies.starts k (omega (arith, lies.same_length)) in
        let last = ends_at k below in
        omega (arith, moved_at k below);
  }

  -- where it ends, before it is moved
  pub moved_ends : ((k : ℕ) → slice_index own.start k + slice_index own.shape k < 2 ^ 64) → (k : ℕ) → k < length own.start
      → slice_index (seen_from shared region.start).start k + slice_index shared.shape k + slice_index own.start k < 2 ^ 64
  moved_ends fit k lt =
      let below : k < length shared.start = omega (arith, own_len) in
      let first = lies.starts k (omega (arith, lies.same_length)) in
      let last = ends_at k below in
      let end = fit k in
      omega (arith, seen_at k below)

  -- its positions are those of the region that were moved
  pub moved_in : (position : List ℕ) → Holds region position → in_box (moved_box own region shared) (moved_to own region position) ≡ in_box shared position
  moved_in position holds =
      let at = holds_along region position long holds in
      within-moved region.start own.start shared.start shared.shape position (sym lies.same_length) own_len (sym shared_long) (at.same_length ∙ sym lies.same_length)
      (λ k lt. lies.starts k (omega (arith, lies.same_length))) (λ k lt. at.from k (omega (arith, at.same_length)))

  pub moved_same : (position : List ℕ) → Holds shared position → moved_to (moved_box own region shared) shared position ≡ moved_to own region position
  moved_same position holds =
      let at = holds_along shared position shared_long holds in
      moved_position region.start own.start shared.start position (sym lies.same_length) own_len at.same_length (λ k lt. lies.starts k (omega (arith, lies.same_length)))
      (λ k lt. at.from k (omega (arith, at.same_length)))

  -- outside of `own` there is no position of it
  pub moved_outside : (position : List ℕ) → in_box own position ≡ false → in_box (moved_box own region shared) position ≡ false
  moved_outside position out = elim (cases_Bool (in_box (moved_box own region shared) position)) [
    | inl here ↦ absurd (false≢true (sym out ∙ holds_inside (moved_box own region shared) own position moved_long own_long moved_lies here))
    | inr is ↦ is
  ]
