use Rattle.std.proofs.Common.{◌≡◌, ◌++◌, ◌∙◌, take, drop, sym, subst}
use Rattle.std.proofs.lemmas.List.{length-take-le, take_at}
use Rattle.std.specs.List.{repeat}
use Rattle.std.specs.Prelude.{slice_index}
use Rattle.zarrs_subset.specs.Boxes.{position_count}
use Rattle.zarrs_subset.specs.Pieces.{piece_at}
use Rattle.zarrs_subset.specs.Regions.{box_at_origin, box_of}
use Rattle.zarrs_data_type_bytes.specs.Parts.{TakesAt}
use Rattle.zarrs_data_type_bytes.proofs.Parts.{flags-taken}
use Rattle.zarrs_data_type_region.proofs.target.fill_mask.Goals as goal

pub returns-clause-filled : goal.returns-clause-filled
returns-clause-filled c =
    let place = c.args.place.now in
    let region = box_of place.region.now in
    let parent = box_at_origin place.shape.now in
    let flags = repeat (position_count region.shape) c.args.flag.now in
    let old = take place.count c.args.masks.now in
    let new = c.fill_part.new.target in
    let same : new ≡ take place.count (new ++ drop place.count c.args.masks.now) =
    sym (take_at new (drop place.count c.args.masks.now) place.count (c.fill_part.auto.target ∙ length-take-le place.count c.args.masks.now c.requires.masks_len)) in
    subst (λ l. TakesAt parent region (slice_index flags) (slice_index old) (slice_index l)) same
    (flags-taken parent region flags old new
    (subst (λ size. TakesAt parent region (piece_at size flags) (piece_at size old) (piece_at size new)) c.requires.flag_len c.fill_part.ensures))
