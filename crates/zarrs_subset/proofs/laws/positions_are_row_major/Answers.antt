use Rattle.std.proofs.Common.{ap, ◌∙◌}
use Rattle.std.specs.Prelude.{slice_get}
use Rattle.zarrs_subset.specs.Regions.{positions}
use Rattle.zarrs_subset.proofs.Positions.{positions_in, positions_all, positions_once}
use Rattle.zarrs_subset.proofs.laws.positions_are_row_major.Goals as goal

pub returns : goal.returns
returns c = λ box position number long. (
  λ at. (positions_in box.start box.shape number position long at, positions_once box.start box.shape number position long at),
  λ h. ap (λ k. slice_get (positions box) k) h.1 ∙ positions_all box.start box.shape position long h.0,
)
