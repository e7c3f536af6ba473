use Rattle.zarrs_subset.proofs.Shifts.{holds-shifted}
use Rattle.zarrs_subset.proofs.laws.shifted_boxes_hold_shifted_positions.Goals as goal

pub returns : goal.returns
returns c = holds-shifted
