use Rattle.zarrs_subset.specs.Regions.{box_of}
use Rattle.zarrs_subset.proofs.Inside.{holds_inside}
use Rattle.zarr_arrays.proofs.reading.covers.Goals as goal

pub returns : goal.returns
returns c = λ yes position holds.
    holds_inside (box_of c.args.chunk.now) (box_of c.args.region.now) position c.args.chunk.now.same_length c.args.region.now.same_length (c.lies_in_box.ensures.0 yes) holds
