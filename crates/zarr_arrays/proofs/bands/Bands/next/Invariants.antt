use Rattle.std.proofs.Common.{◌≡◌, ◌++◌, length}
use Rattle.zarrs_subset.specs.Regions.{box_of, positions}
use Rattle.zarr_cells.specs.Rows.{IsFull}
use Rattle.zarr_arrays.specs.Bands.{places_left}
use Rattle.zarr_arrays.proofs.bands.Bands.next.Given as goal

abbrev pub invariant-cuts : goal.invariant-cuts
invariant-cuts l = record {
  full : IsFull (box_of l.band);
  places : positions (box_of l.band) ++ places_left l.self ≡ places_left l.fn.self;
}

abbrev pub decreases-cuts : goal.decreases-cuts
decreases-cuts l = length (positions (box_of l.band))
