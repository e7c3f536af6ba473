use Rattle.zarrs_subset.proofs.Bytes.{holds_along, along_holds}
use Rattle.zarrs_subset.proofs.laws.boxes_hold_along_each_dimension.Goals as goal

pub returns : goal.returns
returns c = λ box position long. (holds_along box position long, along_holds box position long)
