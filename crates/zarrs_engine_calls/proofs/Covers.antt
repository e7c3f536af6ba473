-- The last position of a region decides whether the chunks hold it.
use Rattle.std.proofs.Common.{◌≡◌, ◌<◌, ◌+◌, ◌-◌, ◌==◌, ◌||◌, zero, suc, ℕ, Bool, true, false, List, [], ◌∷◌, length}
use Rattle.std.proofs.Common.{slice_index, refl, sym, ◌∙◌, arith}
use Rattle.std.specs.List.{list_any}
use Rattle.zarrs_subset.specs.Boxes.{zip_with}
use Rattle.zarrs_subset.specs.Regions.{Box, IsLong, Holds}
use Rattle.zarrs_subset.proofs.Bytes.{holds_along, along_holds}
use Rattle.zarrs_subset.proofs.Overlaps.{length-zip_with}
use Rattle.zarrs_chunk_grid.specs.Grids.{Grid, IsGrid, is_covered}
use Rattle.zarrs_chunk_grid.proofs.AxisLemmas.{covered_below}
use Rattle.zarrs_chunk_grid.proofs.MetChunks.{index_at_covers}
use Rattle.zarrs_chunk_grid.proofs.Chunks.{covered_chunk, chunk_covered}
use Rattle.zarrs_engine_calls.specs.ChunkBoxes.{is_empty, last_of}

pub last_at : (start shape : List ℕ) (k : ℕ) → length start ≡ length shape → k < length start → slice_index (zip_with (λ s e. s + e - 1) start shape) k ≡ slice_index start k + slice_index shape k - 1
last_at [] shape k long below = absurd (omega arith)
last_at (s ∷ start) [] k long below = absurd (omega arith)
last_at (s ∷ start) (e ∷ shape) zero long below = refl
last_at (s ∷ start) (e ∷ shape) (suc k) long below = last_at start shape k (omega arith) (omega arith)

or_tail : (a b : Bool) → a || b ≡ false → b ≡ false
or_tail true b h = absurd (cc)
or_tail false b h = h

pub some_extent : (shape : List ℕ) (k : ℕ) → list_any (λ extent. extent == 0) shape ≡ false → k < length shape → 0 < slice_index shape k
some_extent [] k none below = absurd (omega arith)
some_extent (zero ∷ shape) k none below = absurd (cc)
some_extent (suc e ∷ shape) zero none below = omega arith
some_extent (suc e ∷ shape) (suc k) none below = some_extent shape k (or_tail (suc e == 0) (list_any (λ extent. extent == 0) shape) none) (omega arith)

module _ (grid : Grid) (lawful : IsGrid grid) (region : Box) (long : IsLong region) (some : is_empty region ≡ false) where
  -- the last position is one of the region's
  pub last_held : Holds region (last_of region)
  last_held =
      let count = length-zip_with (λ s e. s + e - 1) region.start region.shape long in
      along_holds region (last_of region) long (record {
        same_length = count;
        from = λ k below. let e = some_extent region.shape k some (omega (arith, long)) in let at = last_at region.start region.shape k long below in omega arith;
        below = λ k below. let e = some_extent region.shape k some (omega (arith, long)) in let at = last_at region.start region.shape k long below in omega arith;
      })

  -- where a chunk holds it, chunks hold the region
  pub last_covers : is_covered grid (last_of region) ≡ true → (position : List ℕ) → Holds region position → is_covered grid position ≡ true
  last_covers hit position holds =
      let last = covered_chunk grid lawful (last_of region) hit in
      let count = length-zip_with (λ s e. s + e - 1) region.start region.shape long in
      let inside = holds_along region position long holds in
      let dimensions : length region.start ≡ grid.dimensions = sym count ∙ last.position_long in
      chunk_covered grid lawful _ position (index_at_covers grid lawful position (inside.same_length ∙ dimensions) (λ k below.
      let here : k < length region.start = omega (arith, dimensions) in
      let at = last_at region.start region.shape k long here in
      let b = inside.below k here in
      let top = covered_below _ (lawful k below) _ _ (last.covers k below) in
      omega arith))

-- so the Bool of the definitions is exact: it is true exactly where each position of the region is covered
pub covered_box : (grid : Grid) → IsGrid grid → (region : Box) → IsLong region → is_empty region ≡ false
    → ((is_covered grid (last_of region) ≡ true → (position : List ℕ) → Holds region position → is_covered grid position ≡ true)
    × (((position : List ℕ) → Holds region position → is_covered grid position ≡ true) → is_covered grid (last_of region) ≡ true))
covered_box grid lawful region long some = (last_covers grid lawful region long some, λ all. all (last_of region) (last_held grid lawful region long some))
