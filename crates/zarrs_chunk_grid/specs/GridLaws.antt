-- The named grids keep the laws of a grid.
use Rattle.std.specs.Prelude.{◌≡◌, ℕ, ◌+◌, ◌-◌, ◌*◌, ◌/◌, ◌<◌, ◌^◌, take, List, [], length, map, sum}
use Rattle.std.specs.Prelude.{slice_index, slice_index_or, refl}
use Rattle.std.specs.List.{All}
use Rattle.std.specs.Int.{div_ceil}
use Rattle.std.specs.Int.NonZero.{non_zero_u64_get}
use Rattle.std.specs.declared.num.NonZeroU64.{NonZeroU64}
use Rattle.std.proofs.Common.{sym, ap, subst, ◌∙◌, arith}
use Rattle.std.proofs.lemmas.List.{get_or-map, length-map, take_all}
use Rattle.std.proofs.lemmas.List.Elements.{All-get_or, All-map}
use Rattle.std.proofs.lemmas.List.Sums.{sum_by_more}
use Rattle.std.proofs.lemmas.Grind.{div_ceil_times}
use Rattle.std.proofs.Math.Nat.{div-mul-le_self, mul-le-mul_right}
use Rattle.zarrs_metadata_parts.specs.Lists.{sizes_of}
use Rattle.zarrs_chunk_grid.specs.Axes.{IsAxis, regular_axis, bounded_axis, sizes_axis}
use Rattle.zarrs_chunk_grid.specs.Grids.{IsGrid}
use Rattle.zarrs_chunk_grid.specs.Configurations.{IsSizes, DimensionSizes, one, listed, axis_of, grid_of, sizes_view, regular, bounded, rectangular}
use Rattle.zarrs_chunk_grid.specs.declared.dimension.ChunkSizes.{ChunkSizes}
use Rattle.zarrs_chunk_grid.specs.declared.dimension.ChunkSizes.TheVariants.{Size, Sizes}

-- ---- the sizes

-- no size is 0
pub sizes_some : (sizes : List NonZeroU64) → All (λ size. 0 < size) (sizes_of sizes)
sizes_some sizes =
    All-map (λ size. 0 < size) non_zero_u64_get sizes (λ k d h. (slice_index_or sizes k d).ok)

view_some : (sizes : ChunkSizes) → IsSizes (sizes_view sizes)
view_some (Size size) = size.ok
view_some (Sizes list) = (sizes_some list.sizes.items, list.fits)

views_some : (sizes : List ChunkSizes) → All IsSizes (map sizes_view sizes)
views_some sizes = All-map IsSizes sizes_view sizes (λ k d h. view_some (slice_index_or sizes k d))

-- a size that was read, among the numbers
pub size_read : (sizes : List NonZeroU64) (k : ℕ) (size : NonZeroU64) → k < length sizes
    → size ≡ slice_index_or sizes k size → slice_index (sizes_of sizes) k ≡ size.value
size_read sizes k size h is =
    get_or-map non_zero_u64_get sizes k size 0 h ∙ ap non_zero_u64_get (sym is)

-- ---- chunks of one size

regular_fits : (size : ℕ) → (2 ^ 64 - 1) / size * size < 2 ^ 64
regular_fits size = omega (arith, div-mul-le_self (2 ^ 64 - 1) size)

regular_step : (size i : ℕ) → 0 < size → i * size < (i + 1) * size
regular_step size i h = omega arith

regular_axis_lawful : (size : ℕ) → 0 < size → IsAxis (regular_axis size)
regular_axis_lawful size h = record {
  first = omega arith;
  ascends = λ i _. regular_step size i h;
  fits = regular_fits size;
}

pub regular_lawful : (sizes : List NonZeroU64) (shape : List ℕ)
    → IsGrid (grid_of (regular (sizes_of sizes)) shape)
regular_lawful sizes shape k h =
    regular_axis_lawful (slice_index (sizes_of sizes) k)
    (All-get_or (λ size. 0 < size) (sizes_of sizes) k 0 h (sizes_some sizes))

-- number i begins before the extent
pub numbered_before : (extent size i : ℕ) → 0 < size → i < div_ceil extent size → i * size < extent
numbered_before extent size i h below =
    let up = mul-le-mul_right {m = i + 1} {n = div_ceil extent size} size (omega arith) in
    let top = (div_ceil_times extent size h).1 in
    omega arith

bounded_axis_lawful : (extent size : ℕ) → 0 < size → extent < 2 ^ 64
    → IsAxis (bounded_axis extent size)
bounded_axis_lawful extent size h fits = record {
  first = omega arith;
  ascends = λ i below. let b = numbered_before extent size i h below in omega arith;
  fits = omega arith;
}

pub bounded_lawful : (sizes : List NonZeroU64) (shape : List ℕ)
    → ((k : ℕ) → k < length sizes → slice_index shape k < 2 ^ 64)
    → IsGrid (grid_of (bounded (sizes_of sizes)) shape)
bounded_lawful sizes shape fit k h =
    bounded_axis_lawful (slice_index shape k) (slice_index (sizes_of sizes) k)
    (All-get_or (λ size. 0 < size) (sizes_of sizes) k 0 h (sizes_some sizes))
    (fit k (omega (arith, h, length-map sizes non_zero_u64_get)))

-- ---- listed sizes

-- one more size, laid behind the ones so far
pub sum_more : (sizes : List ℕ) (i : ℕ) → i < length sizes
    → sum (take (i + 1) sizes) ≡ sum (take i sizes) + slice_index sizes i
sum_more sizes i h = sum_by_more (λ size. size) sizes i 0 h

pub sizes_axis_lawful : (sizes : List ℕ) → All (λ size. 0 < size) sizes → sum sizes < 2 ^ 64
    → IsAxis (sizes_axis sizes)
sizes_axis_lawful sizes some fits = record {
  first = refl;
  ascends = λ i h.
      let positive = All-get_or (λ size. 0 < size) sizes i 0 h some in
      omega (arith, sum_more sizes i h, positive);
  fits = subst (λ s. sum s < 2 ^ 64) (sym (take_all (length sizes) sizes (omega arith))) fits;
}

axis_of_lawful : (sizes : DimensionSizes) → IsSizes sizes → IsAxis (axis_of sizes)
axis_of_lawful (one size) some = regular_axis_lawful size some
axis_of_lawful (listed sizes) some = sizes_axis_lawful sizes some.0 some.1

pub rectangular_lawful : (sizes : List ChunkSizes) (shape : List ℕ)
    → IsGrid (grid_of (rectangular (map sizes_view sizes)) shape)
rectangular_lawful sizes shape k h =
    axis_of_lawful (slice_index_or (map sizes_view sizes) k (listed []))
    (All-get_or IsSizes (map sizes_view sizes) k (listed []) h (views_some sizes))
