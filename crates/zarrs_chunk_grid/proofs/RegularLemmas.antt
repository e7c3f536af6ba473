-- Chunks of one size.
use Rattle.std.proofs.Common.{◌≡◌, ℕ, ◌+◌, ◌-◌, ◌*◌, ◌/◌, ◌<◌, ◌≤◌, ◌^◌, min, List, [], ◌∷◌, length, map, refl, ap, arith}
use Rattle.std.proofs.Math.Nat.{div-mul-le_self, mul-le-mul_right}
use Rattle.std.specs.declared.num.NonZeroU64.{NonZeroU64}
use Rattle.std.specs.List.{zip}
use Rattle.std.specs.Int.{div_ceil}
use Rattle.std.specs.Int.NonZero.{non_zero_u64_get}
use Rattle.std.proofs.lemmas.Grind.{div_ceil_times}
use Rattle.zarrs_metadata_parts.specs.Lists.{sizes_of}
use Rattle.zarrs_chunk_grid.specs.Axes.{IsInterval, bounded_axis}
use Rattle.zarrs_chunk_grid.specs.GridLaws.{numbered_before}
use Rattle.zarrs_chunk_grid.specs.Configurations.{chunk_counts}

-- how many chunks there are along each dimension, from the sizes themselves
pub counts_read : (extents : List ℕ) (sizes : List NonZeroU64)
    → map (λ q. div_ceil q.0 (non_zero_u64_get q.1)) (zip extents sizes) ≡ chunk_counts extents (sizes_of sizes)
counts_read [] sizes = refl
counts_read (extent ∷ extents) [] = refl
counts_read (extent ∷ extents) (size ∷ sizes) = ap (λ r. div_ceil extent size.value ∷ r) (counts_read extents sizes)

pub chunk_counts_long : (extents sizes : List ℕ) → length sizes ≡ length extents
    → length (chunk_counts extents sizes) ≡ length extents
chunk_counts_long [] sizes h = refl
chunk_counts_long (extent ∷ extents) [] h = absurd (omega arith)
chunk_counts_long (extent ∷ extents) (size ∷ sizes) h = omega (arith, chunk_counts_long extents sizes (omega arith))

-- a number that begins before the extent is numbered
before_numbered : (extent size i : ℕ) → 0 < size → i * size < extent → i < div_ceil extent size
before_numbered extent size i h before =
    let top = (div_ceil_times extent size h).0 in
    let high : div_ceil extent size ≤ i → ⊥ = λ k. let up = mul-le-mul_right size k in omega arith in
    omega arith

-- and one that would begin at the extent or past it is not
pub past_extent : (extent size i : ℕ) → 0 < size → extent ≤ i * size → div_ceil extent size ≤ i
past_extent extent size i h past =
    let high : i < div_ceil extent size → ⊥ = λ k. let before = numbered_before extent size i h k in omega arith in
    omega arith

pub bounded_interval_is : (extent size i start long : ℕ) → 0 < size → start ≡ i * size → start < extent → long ≡ min size (extent - start) → IsInterval (bounded_axis extent size) i start long
bounded_interval_is extent size i start long h begins before e = record {
  numbered = before_numbered extent size i h (omega arith);
  begins = omega arith;
  ends = omega arith;
}

-- a chunk whose end passes a `u64` is not numbered
pub past_u64 : (size number : ℕ) → (number * size + size < 2 ^ 64 → ⊥) → (2 ^ 64 - 1) / size ≤ number
past_u64 size number past =
    let low = div-mul-le_self (2 ^ 64 - 1) size in
    let high : number < (2 ^ 64 - 1) / size → ⊥ = λ h.
    let up = mul-le-mul_right {m = number + 1} {n = (2 ^ 64 - 1) / size} size (omega arith) in
    past (omega arith) in
    omega arith
