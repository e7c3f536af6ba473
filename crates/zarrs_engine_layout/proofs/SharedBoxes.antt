-- What a region and the box of a chunk have in common.
use Rattle.std.proofs.Common.{◌≡◌, ℕ, zero, suc, ◌+◌, ◌-◌, ◌<◌, ◌≤◌, max, min, length, refl, sym, ◌∙◌, arith}
use Rattle.std.specs.Prelude.{slice_index}
use Rattle.zarrs_subset.specs.Regions.{Box, IsLong, LiesInShape, overlap_of, seen_from, LiesInBox}
use Rattle.zarrs_subset.proofs.Overlaps.{AllSome, length-overlap_extents, length-zip_with}
use Rattle.zarrs_subset.proofs.Parts.{overlap_extents-at, zip_with-at}
use Rattle.zarrs_subset.proofs.Counts.{count_some}
use Rattle.zarrs_subset.proofs.Inside.{count_inside}
use Rattle.zarrs_engine_layout.specs.Shared.{AreShared}

not_zero : (e : ℕ) → (e ≡ 0 → ⊥) → 0 < e
not_zero zero never = absurd (never refl)
not_zero (suc e) never = omega arith

ends_first : (a x b y f e : ℕ) → f ≡ max a b → e ≡ min (a + x) (b + y) - max a b → 0 < e → f + e ≤ a + x
ends_first a x b y f e first extent some = omega arith

ends_second : (a x b y f e : ℕ) → f ≡ max a b → e ≡ min (a + x) (b + y) - max a b → 0 < e → f + e ≤ b + y
ends_second a x b y f e first extent some = omega arith

seen_within : (a x b y f e o : ℕ) → f ≡ max a b → e ≡ min (a + x) (b + y) - max a b → o ≡ f - b → 0 < e → o + e ≤ y
seen_within a x b y f e o first extent moved some = omega arith

module _ (region chunk : Box) (long : IsLong region) (chunk_long : IsLong chunk) (same : length region.start ≡ length chunk.start) where
  abbrev shared : Box
  shared = overlap_of region chunk

  pub start_len : length shared.start ≡ length region.start
  start_len = length-zip_with (λ a b. max a b) region.start chunk.start same

  pub shape_len : length shared.shape ≡ length region.start
  shape_len = length-overlap_extents region.start region.shape chunk.start chunk.shape long chunk_long same

  pub shared_long : IsLong shared
  shared_long = start_len ∙ sym shape_len

  pub start_at : (k : ℕ) → k < length region.start → slice_index shared.start k ≡ max (slice_index region.start k) (slice_index chunk.start k)
  start_at k lt = zip_with-at (λ a b. max a b) region.start chunk.start k lt (omega (arith, same))

  pub shape_at : (k : ℕ) → k < length region.start
      → slice_index shared.shape k
      ≡ min (slice_index region.start k + slice_index region.shape k) (slice_index chunk.start k + slice_index chunk.shape k) - max (slice_index region.start k) (slice_index chunk.start k)
  shape_at k lt = overlap_extents-at region.start region.shape chunk.start chunk.shape k long chunk_long same lt

  module _ (full : AllSome shared.shape) where
    some_at : (k : ℕ) → k < length region.start → 0 < slice_index shared.shape k
    some_at k lt = not_zero (slice_index shared.shape k) (full k (omega (arith, shape_len)))

    in_region : LiesInBox shared region
    in_region = record {
      same_length = start_len;
      starts = λ k lt. omega (arith, start_at k lt);
      ends = λ k lt.
          ends_first (slice_index region.start k) (slice_index region.shape k) (slice_index chunk.start k) (slice_index chunk.shape k) (slice_index shared.start k) (slice_index shared.shape k)
          (start_at k lt) (shape_at k lt) (some_at k lt);
    }

    in_chunk : LiesInBox shared chunk
    in_chunk = record {
      same_length = start_len ∙ same;
      starts = λ k lt. omega (arith, start_at k (omega (arith, same)));
      ends = λ k lt.
          let below : k < length region.start = omega (arith, same) in
          ends_second (slice_index region.start k) (slice_index region.shape k) (slice_index chunk.start k) (slice_index chunk.shape k) (slice_index shared.start k) (slice_index shared.shape k)
          (start_at k below) (shape_at k below) (some_at k below);
    }

    part_lies : LiesInShape (seen_from shared chunk.start) chunk.shape
    part_lies = record {
      same_length = length-zip_with (λ a b. a - b) shared.start chunk.start (start_len ∙ same) ∙ start_len ∙ same ∙ chunk_long;
      ends = λ k lt.
          let below : k < length region.start = omega (arith, same, chunk_long) in
          let moved = zip_with-at (λ a b. a - b) shared.start chunk.start k (omega (arith, start_len)) (omega (arith, chunk_long)) in
          seen_within (slice_index region.start k) (slice_index region.shape k) (slice_index chunk.start k) (slice_index chunk.shape k) (slice_index shared.start k) (slice_index shared.shape k)
          (slice_index (seen_from shared chunk.start).start k) (start_at k below) (shape_at k below) moved (some_at k below);
    }

    pub are_shared : AreShared region chunk shared (seen_from shared chunk.start)
    are_shared = record {
      some = count_some shared.shape full;
      shared_is = refl;
      part_is = refl;
      in_region = in_region;
      in_chunk = in_chunk;
      lies = part_lies;
      few = count_inside shared region shared_long long in_region;
    }
