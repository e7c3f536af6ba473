-- The runs that copy a box.
use Rattle.std.specs.Prelude.{◌≡◌, ◌↔◌, ℕ, ◌*◌, List, [], ◌∷◌, drop}
use Rattle.zarrs_subset.specs.Boxes.{position_count, place}
use Rattle.zarrs_subset.specs.Strides.{Reaches}
use Rattle.zarrs_subset.specs.declared.runs.Stride.{Stride}
use Rattle.zarrs_subset.specs.declared.runs.Runs.{Runs}

-- a stride for each dimension of a box of these extents, between arrays of these shapes
abbrev pub dimension_strides : ℕ → List ℕ → List ℕ → List ℕ → List Stride
dimension_strides size [] target extents = []
dimension_strides size (n ∷ source) [] extents = []
dimension_strides size (n ∷ source) (m ∷ target) [] = []
dimension_strides size (n ∷ source) (m ∷ target) (e ∷ extents) =
    record { count = e; source_step = position_count source * size; target_step = position_count target * size }
    ∷ dimension_strides size source target extents

abbrev pub strides_of : Runs → List Stride
strides_of runs = drop runs.first runs.strides

-- the runs copy the box of `extents` at `from` in an array of shape `source` to `to` in an array of shape `target`
pub record IsPlan (size : ℕ) (source from target to extents : List ℕ) (runs : Runs) : Type 0 where
  pub source_block : runs.source_block ≡ position_count source * size
  pub target_block : runs.target_block ≡ position_count target * size
  pub source_offset : runs.source_offset ≡ place source from * size
  pub target_offset : runs.target_offset ≡ place target to * size
  pub reaches : (t s : ℕ) → Reaches (strides_of runs) runs.len t s ↔ Reaches (dimension_strides size source target extents) size t s
