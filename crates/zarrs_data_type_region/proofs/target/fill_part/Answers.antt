use Rattle.std.proofs.Common.{◌≡◌, length, slice_index, SomeIndex, refl, rules}
use Rattle.std.specs.List.{repeat}
use Rattle.std.proofs.lemmas.Bool.{iff_false}
use Rattle.zarrs_subset.specs.Boxes.{position_count}
use Rattle.zarrs_subset.specs.Regions.{box_of}
use Rattle.zarrs_subset.proofs.Counts.{count_some}
use Rattle.zarrs_subset.proofs.Overlaps.{AllSome, in_box-empty}
use Rattle.zarrs_data_type_region.proofs.Copies.{fits_parent}
use Rattle.zarrs_data_type_region.proofs.Rows.{box_filled, nothing_filled}
use Rattle.zarrs_data_type_region.proofs.target.fill_part.Goals as goal

pub returns-then-is_empty : goal.returns-then-is_empty
returns-then-is_empty c =
    let place = c.args.place.now in
    let region = place.region.now in
    let found : SomeIndex region.shape.items (λ k. slice_index region.shape.items k ≡ 0) = search rules in
    nothing_filled (length c.args.piece.now) (box_of region) place.shape.now (repeat (position_count region.shape.items) c.args.piece.now) c.args.target.now
    (λ position. in_box-empty region.start.items region.shape.items position found.0 region.same_length found.1 found.2)

pub fill_blocks-requires-clause-fits : goal.fill_blocks-requires-clause-fits
fill_blocks-requires-clause-fits c =
    let place = c.args.place.now in
    let region = place.region.now in
    let extents : c.shape-extents.result.now ≡ region.shape.items = search rules in
    let start : c.start.result.now ≡ region.start.items = search rules in
    rw (extents, start) (fits_parent region.start.items region.shape.items place.shape.now region.same_length c.requires.inside.same_length c.requires.inside.ends)

pub fill_blocks-requires-clause-some : goal.fill_blocks-requires-clause-some
fill_blocks-requires-clause-some c =
    let region = c.args.place.now.region.now in
    let extents : c.shape-extents.result.now ≡ region.shape.items = search rules in
    let all : AllSome region.shape.items = λ j below z. iff_false c.is_empty.ensures c.if-is_empty.false (j, below, z) in
    rw extents (count_some region.shape.items all)

pub returns : goal.returns
returns c =
    let place = c.args.place.now in
    let region = place.region.now in
    let extents : c.shape-extents.result.now ≡ region.shape.items = search rules in
    let start : c.start.result.now ≡ region.start.items = search rules in
    box_filled (length c.args.piece.now) (box_of region) place.shape.now c.args.piece.now c.args.target.now c.fill_blocks.new.target refl region.same_length
    (rw (extents, start) at c.fill_blocks.ensures)
