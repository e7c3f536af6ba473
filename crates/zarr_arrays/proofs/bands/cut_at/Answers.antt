use Rattle.std.proofs.Common.{◌≤◌, length, arith}
use Rattle.zarrs_subset.specs.Regions.{box_of}
use Rattle.zarr_cells.proofs.RowLemmas.{count_one}
use Rattle.zarr_arrays.proofs.bands.cut_at.Goals as goal

pub returns-then-axis-dimensionality : goal.returns-then-axis-dimensionality
returns-then-axis-dimensionality c =
    let region = box_of c.args.region.now in
    let past : length region.shape ≤ c.long_axis-axis.result =
    omega (arith, c.if-axis-dimensionality.true, c.dimensionality.ensures.count, c.args.region.now.same_length) in
    count_one region.shape c.long_axis-axis.result _ past c.long_axis-axis.ensures.ones
