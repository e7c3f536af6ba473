-- Walks through the chunks that a change of the array's shape cuts.
use Rattle.std.specs.Prelude.{◌≡◌, ℕ, true, false, List, length}
use Rattle.zarrs_subset.specs.Regions.{Box, box_at_origin, place_in}
use Rattle.zarrs_chunk_grid.specs.Grids.{Grid, has_box}
use Rattle.zarrs_engine_calls.specs.Cuts.{is_below, is_cut}
use Rattle.zarrs_engine_layout.specs.declared.cut_walk.CutWalk.{CutWalk}
use Rattle.zarrs_engine_layout.specs.WholeChunks.{PassesBelow}

-- the box that a walk goes through, the shape whose positions it leaves out, and the number of the position that it is at
abbrev pub walk_box : CutWalk → Box
walk_box walk = box_at_origin walk.shape.items

abbrev pub walk_whole : CutWalk → List ℕ
walk_whole walk = walk.whole.items

abbrev pub walk_number : CutWalk → ℕ
walk_number walk = place_in (walk_box walk) walk.current.items

-- the walk is at the first position of an array of this shape that is not below `whole`
pub record IsFirst (shape whole : List ℕ) (walk : CutWalk) : Type 0 where
  pub same_box : walk_box walk ≡ box_at_origin shape
  pub same_whole : walk_whole walk ≡ whole
  pub passes : PassesBelow shape whole 0 (walk_number walk)

-- no chunk of an array of shape `old` is cut if its shape becomes `new`
abbrev pub HasNoCut : Grid → List ℕ → List ℕ → Type 0
HasNoCut grid old new = (index : List ℕ) → is_below (grid.counts old) index ≡ true → is_cut grid new index ≡ false

-- the walk is at the first chunk of an array of shape `old` that is cut if its shape becomes `new`, and goes through
-- those that are cut
pub record IsCutWalk (grid : Grid) (old new : List ℕ) (walk : CutWalk) : Type 0 where
  pub same_box : walk_box walk ≡ box_at_origin (grid.counts old)
  pub dimensions : length (walk_box walk).shape ≡ grid.dimensions
  -- it leaves out no chunk that is cut, and comes to no other chunk
  pub left_out : (index : List ℕ) → is_below (walk_whole walk) index ≡ true → is_cut grid new index ≡ false
  pub cut : (index : List ℕ)
      → is_below (grid.counts old) index ≡ true → has_box grid index ≡ true → is_below (walk_whole walk) index ≡ false
      → is_cut grid new index ≡ true
  pub first : PassesBelow (grid.counts old) (walk_whole walk) 0 (walk_number walk)
