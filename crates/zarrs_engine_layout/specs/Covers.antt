-- Chunks that cover a region.
use Rattle.std.specs.Prelude.{◌≡◌, ℕ, true, false, List, [], ◌∷◌, length, None, Contains}
use Rattle.zarrs_subset.specs.Regions.{Box, IsLong, Holds, positions}
use Rattle.zarrs_chunk_grid.specs.Grids.{Grid, chunks_box, index_at, is_covered, has_box, met}
use Rattle.zarrs_engine_calls.specs.ArgumentRefusals.{region_refusal}
use Rattle.zarrs_engine_calls.specs.ChunkBoxes.{chunks_met, is_empty}
use Rattle.zarrs_engine_calls.specs.Layout.{Layout}

-- each position of the region lies in one of these chunks, and each of them has a box
pub record CoverRegion (grid : Grid) (region : Box) (chunks : List (List ℕ)) : Type 0 where
  pub long : IsLong region
  pub dimensions : length region.start ≡ grid.dimensions
  pub boxed : (index : List ℕ) → Contains chunks index → has_box grid index ≡ true
  pub covered : (position : List ℕ) → Holds region position → is_covered grid position ≡ true
  pub listed : (position : List ℕ) → Holds region position → Contains chunks (index_at grid position)

-- this is the range of the chunks that the region meets, and they cover it
pub record AreMetBy (grid : Grid) (region range : Box) : Type 0 where
  pub chunks : range ≡ met grid region
  pub cover : CoverRegion grid region (positions range)

-- this is the region that the chunks of the range fill, and they cover it
pub record IsFilledBy (grid : Grid) (range filled : Box) : Type 0 where
  pub region : filled ≡ chunks_box grid range
  pub cover : CoverRegion grid filled (positions range)

-- the region is not empty, and lies in the chunk of this index, which is the only one that it meets
pub record IsInChunk (layout : Layout) (shape : List ℕ) (region : Box) (index : List ℕ) : Type 0 where
  pub some : is_empty region ≡ false
  pub accepted : region_refusal layout shape region ≡ None
  pub met : chunks_met layout.grid region ≡ index ∷ []
  pub cover : CoverRegion layout.grid region (index ∷ [])

-- the region is empty, or lies in no single chunk
abbrev pub IsInNoChunk : Layout → List ℕ → Box → Type 0
IsInNoChunk layout shape region = (index : List ℕ) → IsInChunk layout shape region index → ⊥
