use Rattle.zarrs_subset.specs.Regions.{box_of}
use Rattle.zarr_arrays.specs.Bands.{places_left}
use Rattle.zarr_arrays.proofs.BandLemmas.{places_pop, full_pop, fewer_left}
use Rattle.zarr_arrays.proofs.bands.Bands.next.Goals as goal

pub cuts-init : goal.cuts-init
cuts-init c = record {
  full = full_pop c.args.self.now.left.items c.pop.new.self.items c.pop.result c.in-Some.region c.pop.ensures.items c.in-Some.is c.args.self.now.full;
  places = places_pop c.args.self.now.left.items c.pop.new.self.items c.pop.result c.in-Some.region c.pop.ensures.items c.in-Some.is;
}

pub returns-clause-fewer : goal.returns-clause-fewer
returns-clause-fewer c =
    fewer_left (box_of c.cuts.band) (places_left c.cuts.self) (places_left c.args.self.now) c.cuts.invariant.places c.cuts.band.same_length c.cuts.invariant.full
