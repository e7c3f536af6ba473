use Rattle.std.proofs.Common.{◌≡◌, ◌∙◌, length, replicate, ap, sym, rules}
use Rattle.zarrs_subset.specs.Regions.{box_of}
use Rattle.zarrs_data_type_region.proofs.Copies.{copied_part, fits_own, fits_parent}
use Rattle.zarrs_data_type_region.proofs.target.write_part.Goals as goal

pub copy_box-requires-clause-source_fits : goal.copy_box-requires-clause-source_fits
copy_box-requires-clause-source_fits c =
    let place = c.args.place.now in
    let region = place.region.now in
    let extents : c.shape-extents.result.now ≡ region.shape.items = search rules in
    let dimensions : length place.shape.now ≡ length region.shape.items = sym c.requires.inside.same_length ∙ region.same_length in
    let origin : place.origin.now ≡ replicate (length region.shape.items) 0 = c.requires.origin ∙ ap (λ n. replicate n 0) dimensions in
    rw (origin, extents) (fits_own region.shape.items)

pub copy_box-requires-clause-target_fits : goal.copy_box-requires-clause-target_fits
copy_box-requires-clause-target_fits c =
    let place = c.args.place.now in
    let region = place.region.now in
    let extents : c.shape-extents.result.now ≡ region.shape.items = search rules in
    let start : c.start.result.now ≡ region.start.items = search rules in
    rw (extents, start) (fits_parent region.start.items region.shape.items place.shape.now region.same_length c.requires.inside.same_length c.requires.inside.ends)

pub returns : goal.returns
returns c =
    let place = c.args.place.now in
    copied_part c.args.size (box_of place.region.now) place.shape.now c.args.part.now c.args.target.now c.copy_box.new.target
    c.requires.inside.same_length (search rules)
