-- Chains that write cells as they stand in memory.
use Rattle.std.specs.Prelude.{◌≡◌, ℕ, Bool, Some, List}
use Rattle.zarrs_data_type.specs.Kind.{Kind}
use Rattle.zarrs_data_type.specs.Cell.{Cell}
use Rattle.zarrs_data_type.specs.ArrayData.{fixed}
use Rattle.zarrs_data_type.specs.Cells.{cells}
use Rattle.zarrs_codec_chain.specs.Chain.{ChainMeaning}

-- The cells of a chunk of any shape encode to the bytes that they are in memory.
pub record WritesCells (m : ChainMeaning) (k : Kind) : Type 0 where
  pub bytes : (empty : Bool) (f : Cell) (s b : List ℕ) (cs : List Cell) → cells k (fixed b) ≡ Some cs → m.encoded empty k f s cs ≡ Some b
