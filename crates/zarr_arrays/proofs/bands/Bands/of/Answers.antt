use Rattle.std.proofs.Common.{sym, ap, ◌∙◌}
use Rattle.zarrs_subset.specs.Regions.{box_of}
use Rattle.zarrs_subset.proofs.WalkLemmas.{positions-empty}
use Rattle.zarr_arrays.specs.Bands.{places_of}
use Rattle.zarr_arrays.proofs.BandLemmas.{places_one}
use Rattle.zarr_arrays.proofs.bands.Bands.of.Goals as goal

pub returns-then-is_empty : goal.returns-then-is_empty
returns-then-is_empty c =
    ap places_of c.new-left.ensures.items
    ∙ sym (positions-empty (box_of c.args.region) c.args.region.same_length (c.is_empty.ensures.0 c.if-is_empty.true))

pub returns : goal.returns
returns c = places_one c.new-left.result.items c.push.new.self.items c.args.region c.new-left.ensures.items c.in_ok-push.ensures.items
