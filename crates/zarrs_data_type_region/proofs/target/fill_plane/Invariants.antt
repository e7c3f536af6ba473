use Rattle.std.proofs.Common.{◌≡◌, ◌∷◌, length, take, drop}
use Rattle.std.specs.List.{repeat}
use Rattle.zarrs_data_type_region.specs.Targets.{IsFilledBox}
use Rattle.zarrs_data_type_region.proofs.target.fill_plane.Given as goal

-- the rows so far, of which the first stays
abbrev pub invariant-loop-row : goal.invariant-loop-row
invariant-loop-row l = record {
  len : length l.target ≡ length l.fn.target;
  first : take l.len (drop l.from l.target) ≡ repeat l.count l.piece;
  filled : IsFilledBox (length l.piece) l.shape l.start (l.row ∷ drop 1 l.extents) l.piece l.fn.target l.target;
}
