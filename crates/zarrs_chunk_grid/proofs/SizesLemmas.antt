-- Chunks of listed sizes, and grids of them.
use Rattle.std.proofs.Common.{◌≡◌, ℕ, zero, suc, ◌+◌, ◌-◌, ◌<◌, ◌≤◌, ◌^◌, List, [], ◌∷◌, length, map, sum, take, slice_index}
use Rattle.std.proofs.Common.{slice_index_or, true, false, inl, inr, refl, sym, ap, subst, nat_le, Bool, Some, slice_get, ◌∙◌, arith}
use Rattle.std.specs.List.{All}
use Rattle.std.specs.declared.num.NonZeroU64.{NonZeroU64}
use Rattle.std.specs.Int.NonZero.{non_zero_u64_get}
use Rattle.std.specs.List.Sorted.{IsNonDecreasingBy}
use Rattle.std.proofs.lemmas.Bool.{cases_Bool, and_from, leb-true, leb-false}
use Rattle.std.proofs.lemmas.Option.{slice_get_within, get_or_from_slice_get}
use Rattle.std.proofs.lemmas.List.{length-map, take_all}
use Rattle.std.proofs.lemmas.List.Sums.{sum_by-take-le}
use Rattle.std.proofs.lemmas.List.Sorted.{IsNonDecreasingBy-from_default}
use Rattle.std.proofs.lemmas.List.FromFn.{length-map-range_with_len, get_or-map-range_with_len}
use Rattle.zarrs_metadata_parts.specs.Lists.{sizes_of}
use Rattle.zarrs_chunk_grid.specs.Axes.{Covers, IsInterval, sizes_axis, ends_of_sizes}
use Rattle.zarrs_chunk_grid.specs.Configurations.{rectangular, chunks_along, counts_of, fills, all_fill, sizes_view}
use Rattle.zarrs_chunk_grid.specs.GridLaws.{size_read, sizes_axis_lawful, sum_more}
use Rattle.zarrs_chunk_grid.specs.declared.dimension.ChunkSizes.{ChunkSizes}
use Rattle.zarrs_chunk_grid.proofs.AxisLemmas.{edge_le}

pub ends_long : (sizes : List ℕ) → length (ends_of_sizes sizes) ≡ length sizes
ends_long sizes = length-map-range_with_len _ 0 (length sizes)

pub end_at : (sizes : List ℕ) (k : ℕ) → k < length sizes → slice_index (ends_of_sizes sizes) k ≡ sum (take (k + 1) sizes)
end_at sizes k h = get_or-map-range_with_len (λ i. sum (take (i + 1) sizes)) 0 (length sizes) k k 0 h (omega arith)

-- the last chunk ends where the sizes add up to
pub last_end : (sizes : List ℕ) (k : ℕ) → k + 1 ≡ length sizes → slice_index (ends_of_sizes sizes) k ≡ sum sizes
last_end sizes k h = end_at sizes k (omega arith) ∙ ap sum (take_all (k + 1) sizes (omega arith))

-- one more size, laid behind the ones so far
pub size_more : (sizes : List NonZeroU64) (i : ℕ) (size : NonZeroU64) → i < length sizes
    → size ≡ slice_index_or sizes i size → sum (take (i + 1) (sizes_of sizes)) ≡ sum (take i (sizes_of sizes)) + size.value
size_more sizes i size h is =
    let inside : i < length (sizes_of sizes) = omega (arith, h, length-map sizes non_zero_u64_get) in
    omega (arith, sum_more (sizes_of sizes) i inside, size_read sizes i size h is)

-- a sum so far that passes a `u64` lies within the whole sum
pub past_sum : (sizes : List NonZeroU64) (i end : ℕ) (size : NonZeroU64) → i < length sizes
    → size ≡ slice_index_or sizes i size → end ≡ sum (take i (sizes_of sizes)) → (end + size.value < 2 ^ 64 → ⊥)
    → 2 ^ 64 ≤ sum (sizes_of sizes)
past_sum sizes i end size h is end_is past =
    let more = size_more sizes i size h is in
    let whole = sum_by-take-le (λ n. n) (sizes_of sizes) (i + 1) in
    let high : end + size.value < 2 ^ 64 → ⊥ = past in
    omega arith

-- where chunk number k begins, from where it ends
pub interval_from_end : (sizes : List NonZeroU64) (k end : ℕ) (size : NonZeroU64) → k < length sizes
    → size ≡ slice_index_or sizes k size → end ≡ slice_index (ends_of_sizes (sizes_of sizes)) k
    → (size.value ≤ end) × IsInterval (sizes_axis (sizes_of sizes)) k (end - size.value) size.value
interval_from_end sizes k end size h is end_is =
    let inside : k < length (sizes_of sizes) = omega (arith, h, length-map sizes non_zero_u64_get) in
    let ends = end_at (sizes_of sizes) k inside in
    let more = size_more sizes k size h is in
    (omega arith, record { numbered = inside; begins = omega arith; ends = omega arith })

-- the ends rise
pub ends_rise : (sizes : List ℕ) → All (λ size. 0 < size) sizes → sum sizes < 2 ^ 64 → IsNonDecreasingBy (λ end. end) (ends_of_sizes sizes)
ends_rise sizes some fits =
    let long = ends_long sizes in
    IsNonDecreasingBy-from_default (λ end. end) (ends_of_sizes sizes) 0
    (λ i j h below.
    let inside : j < length sizes = omega (arith, long, below) in
    let before : i < length sizes = omega (arith, h, inside) in
    rw (end_at sizes i before, end_at sizes j inside) (edge_le (sizes_axis sizes) (sizes_axis_lawful sizes some fits) (i + 1) (j + 1) (omega arith) (omega arith)))

-- the first end past a coordinate is that of the chunk that covers it
pub first_end_covers : (sizes : List ℕ) (number x : ℕ) → number < length sizes → ((k : ℕ) → k < number → slice_index (ends_of_sizes sizes) k ≤ x) → x < slice_index (ends_of_sizes sizes) number → Covers (sizes_axis sizes) number x
first_end_covers sizes zero x h low high = record { numbered = h; from = omega arith; below = rw (end_at sizes 0 h) at high }
first_end_covers sizes (suc k) x h low high =
    let same : k + 1 ≡ suc k = omega arith in
    record {
      numbered = h;
      from = rw (end_at sizes k (omega arith), same) at (low k (omega arith));
      below = rw (end_at sizes (suc k) h) at high;
    }

-- a coordinate past each end lies past the sum of the sizes
pub past_each_end : (sizes : List ℕ) (x : ℕ) → ((k : ℕ) → k < length sizes → slice_index (ends_of_sizes sizes) k ≤ x) → sum sizes ≤ x
past_each_end [] x past = omega arith
past_each_end (size ∷ sizes) x past =
    let last = last_end (size ∷ sizes) (length sizes) (omega arith) in
    let below = past (length sizes) (omega arith) in
    omega (arith, last, below)

-- the last of the ends
pub last_found : (sizes : List ℕ) (ends : List ℕ) (end : ℕ) → ends ≡ ends_of_sizes sizes → Some end ≡ slice_get ends (length ends - 1) → end ≡ sum sizes
last_found sizes ends end is found =
    let within = slice_get_within ends (length ends - 1) end (sym found) in
    let at : slice_index ends (length ends - 1) ≡ end = get_or_from_slice_get ends (length ends - 1) end 0 (sym found) in
    let long = ap length is ∙ ends_long sizes in
    sym at ∙ (ap (λ xs. slice_index xs (length ends - 1)) is ∙ last_end sizes (length ends - 1) (omega arith))

-- what a binary search of the ends finds
module _ (sizes : List ℕ) (ends : List ℕ) (number x : ℕ) (is : ends ≡ ends_of_sizes sizes)
    (low : (k d : ℕ) → 0 ≤ k → k < number → nat_le (slice_index_or ends k d) x ≡ true) where
  low_ends : (k : ℕ) → k < number → slice_index (ends_of_sizes sizes) k ≤ x
  low_ends k h = rw is at (leb-true (slice_index ends k) x (low k 0 (omega arith) h))

  pub found_covers : ((k d : ℕ) → number ≤ k → k < length ends → nat_le (slice_index_or ends k d) x ≡ false) → number < length sizes → Covers (sizes_axis sizes) number x
  found_covers high within =
      let long = ap length is ∙ ends_long sizes in
      let past = rw is at (leb-false (slice_index ends number) x (high number 0 (omega arith) (omega arith))) in
      first_end_covers sizes number x within low_ends past

  pub none_covers : length sizes ≤ number → sum sizes ≤ x
  none_covers past = past_each_end sizes x (λ k h. low_ends k (omega arith))

-- the counts, one dimension after the other
pub counts_from : (sizes : List ChunkSizes) (extents counts : List ℕ) → length sizes ≡ length extents → length counts ≡ length sizes →
    ((k : ℕ) (d : ChunkSizes) → k < length sizes → slice_index counts k ≡ chunks_along (sizes_view (slice_index_or sizes k d)) (slice_index extents k)) → counts ≡ counts_of (rectangular (map sizes_view sizes)) extents
counts_from [] extents [] long same each = refl
counts_from [] extents (count ∷ counts) long same each = absurd (omega arith)
counts_from (s ∷ sizes) [] counts long same each = absurd (omega arith)
counts_from (s ∷ sizes) (extent ∷ extents) [] long same each = absurd (omega arith)
counts_from (s ∷ sizes) (extent ∷ extents) (count ∷ counts) long same each =
    let head : count ≡ chunks_along (sizes_view s) extent = each 0 s (omega arith) in
    let tail : counts ≡ counts_of (rectangular (map sizes_view sizes)) extents = counts_from sizes extents counts (omega arith) (omega arith) (λ k d h. each (suc k) d (omega arith)) in
    let join : (c : ℕ) (cs : List ℕ) → c ≡ chunks_along (sizes_view s) extent → cs ≡ counts_of (rectangular (map sizes_view sizes)) extents → c ∷ cs ≡ chunks_along (sizes_view s) extent ∷ counts_of (rectangular (map sizes_view sizes)) extents = λ c cs p q. ap (λ c. c ∷ cs) p ∙ ap (λ cs. chunks_along (sizes_view s) extent ∷ cs) q in
    join count counts head tail

-- each list of sizes adds up, one dimension after the other
pub fill_from : (sizes : List ChunkSizes) (extents : List ℕ) → length sizes ≡ length extents →
    ((k : ℕ) (d : ChunkSizes) → k < length sizes → fills (sizes_view (slice_index_or sizes k d)) (slice_index extents k) ≡ true) → all_fill (map sizes_view sizes) extents ≡ true
fill_from [] extents long each = refl
fill_from (s ∷ sizes) [] long each = refl
fill_from (s ∷ sizes) (extent ∷ extents) long each =
    and_from (fills (sizes_view s) extent) (all_fill (map sizes_view sizes) extents) (each 0 s (omega arith)) (fill_from sizes extents (omega arith) (λ k d h. each (suc k) d (omega arith)))

-- one list that does not is enough to refuse
pub fill_not : (sizes : List ChunkSizes) (extents : List ℕ) (k : ℕ) (here : ChunkSizes) → length sizes ≡ length extents → k < length sizes → here ≡ slice_index_or sizes k here →
    fills (sizes_view here) (slice_index extents k) ≡ false → all_fill (map sizes_view sizes) extents ≡ false
fill_not [] extents k here long within is none = absurd (omega arith)
fill_not (s ∷ sizes) [] k here long within is none = absurd (omega arith)
fill_not (s ∷ sizes) (extent ∷ extents) zero here long within is none =
    let first : fills (sizes_view s) extent ≡ false = subst (λ (h : ChunkSizes). fills (sizes_view h) extent ≡ false) is none in
    rw first refl
fill_not (s ∷ sizes) (extent ∷ extents) (suc k) here long within is none =
    let rest : all_fill (map sizes_view sizes) extents ≡ false = fill_not sizes extents k here (omega arith) (omega arith) is none in
    elim (cases_Bool (fills (sizes_view s) extent)) [
      | inl here_fills ↦ rw (here_fills, rest) refl
      | inr here_not ↦ rw here_not refl
    ]

pub false_from_not : (b : Bool) → (b ≡ true → ⊥) → b ≡ false
false_from_not b not =
    elim (cases_Bool b) [
      | inl holds ↦ absurd (not holds)
      | inr fails ↦ fails
    ]
