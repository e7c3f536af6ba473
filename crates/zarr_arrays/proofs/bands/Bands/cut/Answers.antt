use Rattle.std.proofs.Common.{◌-◌, ◌<◌, ◌≤◌, length, slice_index, arith}
use Rattle.zarrs_subset.specs.Regions.{box_of}
use Rattle.zarr_cells.proofs.RowLemmas.{full_set}
use Rattle.zarr_arrays.proofs.BandLemmas.{places_cut, fewer_cut}
use Rattle.zarr_arrays.proofs.bands.Bands.cut.Goals as goal

pub returns-clause-places : goal.returns-clause-places
returns-clause-places c =
    places_cut (box_of c.in_ok-band.band) (box_of c.args.region.now) c.in_ok-band.rest c.args.self.now.left.items c.push.new.self.items
    c.in_ok-band.ensures.places c.in_ok-push.ensures.items

pub returns-clause-fewer : goal.returns-clause-fewer
returns-clause-fewer c =
    let region = box_of c.args.region.now in
    let inside : c.args.axis < length region.shape = omega (arith, c.requires.cut.inside, c.args.region.now.same_length) in
    let some : 1 ≤ slice_index region.shape c.args.axis - c.args.rows = omega (arith, c.requires.cut.fewer) in
    fewer_cut (box_of c.in_ok-band.band) region c.in_ok-band.rest c.in_ok-band.ensures.places c.in_ok-band.rest.same_length
    (full_set region.shape (box_of c.in_ok-band.rest).shape c.args.axis (slice_index region.shape c.args.axis - c.args.rows) c.in_ok-band.ensures.others inside some c.requires.full)
