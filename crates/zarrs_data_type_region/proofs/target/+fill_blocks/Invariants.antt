use Rattle.std.proofs.Common.{◌≡◌, ◌-◌, ◌∷◌, length, drop, slice_index}
use Rattle.zarrs_data_type_region.specs.Targets.{IsFilledBox}
use Rattle.zarrs_data_type_region.proofs.target.+fill_blocks.Given as goal

abbrev pub decreases-fill_blocks : goal.decreases-fill_blocks
decreases-fill_blocks l = l.axis

-- the blocks so far
abbrev pub invariant-loop-index : goal.invariant-loop-index
invariant-loop-index l = record {
  len : length l.target ≡ length l.initial.target;
  filled : IsFilledBox (length l.piece) l.shape l.start ((l.index - slice_index l.start 0) ∷ drop 1 l.extents) l.piece l.initial.target l.target;
}
