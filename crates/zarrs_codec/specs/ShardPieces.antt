-- The cells of one subchunk in a read of a part of a shard.
use Rattle.std.specs.Prelude.{◌≡◌, ℕ, false, List, length, Option, Some}
use Rattle.zarrs_data_type.specs.ArrayData.{ArrayData}
use Rattle.zarrs_data_type.specs.Cells.{cells}
use Rattle.zarrs_codec_chain.specs.ShardParts.{IsPartCell, ReadsSubchunk}
use Rattle.zarrs_codec_shard.specs.Subchunks.{quotients}
use Rattle.zarrs_subset.specs.Boxes.{position_count}
use Rattle.zarrs_subset.specs.Regions.{Box, Holds, cell_in, in_box}
use Rattle.zarrs_data_type.specs.Cell.{Cell}
use Rattle.zarrs_data_type.specs.Kind.{Kind}

-- the box has the positions of the part that lie in the subchunk with these indices, and the data is one cell for each
-- of them: the one that the subchunk has there
pub record HasPiece (k : Kind) (decoded : List ℕ → Option (List Cell)) (fill : Cell) (shape sub : List ℕ)
    (part : Box) (parts : List (Option (List ℕ))) (index : List ℕ) (shared : Box) (held : ArrayData) : Type 0 where
  pub dimensions : length part.start ≡ length shared.start
  pub own : (position : List ℕ) → Holds part position → quotients position sub ≡ index → Holds shared position
  pub others : (position : List ℕ) → Holds part position → (quotients position sub ≡ index → ⊥) → in_box shared position ≡ false
  pub given : List Cell
  pub are_cells : cells k held ≡ Some given
  pub count : length given ≡ position_count shared.shape
  pub each : (position : List ℕ) → Holds part position → Holds shared position
      → IsPartCell decoded fill shape sub parts position (cell_in shared given position)

-- what is all fill has the cells of the part that lie in the subchunk with these indices
abbrev pub HasNoPiece : Kind → (List ℕ → Option (List Cell)) → (fill : Cell) (shape sub : List ℕ)
    → Box → List (Option (List ℕ)) → (index : List ℕ) → Type 0
HasNoPiece k decoded fill shape sub part parts index =
    (held : ArrayData) → ReadsSubchunk k decoded fill shape sub part parts index held held
