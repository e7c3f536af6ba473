use Rattle.std.proofs.Common.{◌≡◌, ◌∙◌, ◌-◌, ◌*◌, ap, sym, subst, length, take, drop, arith}
use Rattle.std.specs.List.{repeat}
use Rattle.zarrs_subset.specs.Boxes.{position_count}
use Rattle.zarrs_subset.specs.Pieces.{piece_at}
use Rattle.zarrs_subset.specs.Regions.{box_at_origin, box_of}
use Rattle.zarrs_data_type_bytes.specs.ArrayData.{ArrayData, data_of, fixed, optional}
use Rattle.zarrs_data_type_bytes.specs.Parts.{TakesAt}
use Rattle.std.proofs.lemmas.List.{length-drop}
use Rattle.zarrs_data_type_region.specs.Targets.{HasLevels, repeated}
use Rattle.zarrs_data_type_region.proofs.TargetLevels.{end_is, level_parts, mask_room, fixed_written, optional_written}
use Rattle.zarrs_data_type_region.proofs.Repeats.{fixed_len, repeated_levels}
use Rattle.zarrs_data_type_region.proofs.target.+fill_levels.Goals as goal

pub fill_part-requires-clause-target_len : goal.fill_part-requires-clause-target_len
fill_part-requires-clause-target_len t c =
    let place = c.args.place.now in
    let is : data_of c.args.cell.now ≡ fixed c.as_slice.result.now = ap data_of c.in-Fixed.is ∙ ap fixed (sym c.as_slice.ensures.value) in
    let len = fixed_len c.args.depth place.cell_size (data_of c.args.cell.now) c.as_slice.result.now is c.requires.data in
    c.requires.bytes_len ∙ ap (λ s. place.count * s) (sym len)

pub fill_mask-requires-clause-masks_len : goal.fill_mask-requires-clause-masks_len
fill_mask-requires-clause-masks_len t c =
    let place = c.args.place.now in
    let is : data_of c.args.cell.now ≡ optional c.in-Optional.optional.mask (data_of c.in-Optional.optional.data.value) = ap data_of c.in-Optional.is in
    let parts = level_parts c.args.depth place.cell_size _ _ _ _ is c.requires.data in
    (mask_room c.args.depth place.count (length c.args.masks.now) parts.0 c.requires.masks_len).0

pub fill_mask-requires-clause-flag_len : goal.fill_mask-requires-clause-flag_len
fill_mask-requires-clause-flag_len t c =
    let is : data_of c.args.cell.now ≡ optional c.in-Optional.optional.mask (data_of c.in-Optional.optional.data.value) = ap data_of c.in-Optional.is in
    let parts = level_parts c.args.depth c.args.place.now.cell_size _ _ _ _ is c.requires.data in
    ap length c.mask.ensures.mask ∙ parts.1

pub returns-in-Fixed : goal.returns-in-Fixed
returns-in-Fixed t c =
    let place = c.args.place.now in
    let n = position_count place.region.now.shape.items in
    let d = data_of c.args.cell.now in
    let piece = c.as_slice.result.now in
    let is : d ≡ fixed piece = ap data_of c.in-Fixed.is ∙ ap fixed (sym c.as_slice.ensures.value) in
    let len = fixed_len c.args.depth place.cell_size d piece is c.requires.data in
    let parent = box_at_origin place.shape.now in
    let region = box_of place.region.now in
    fixed_written place.cell_size parent region c.args.depth place.count n (repeated n d)
    (repeat n piece) c.args.masks.now c.args.bytes.now c.fill_part.new.target (ap (repeated n) is) (repeated_levels c.args.depth place.cell_size n d c.requires.data)
    (subst (λ size. TakesAt parent region (piece_at size (repeat n piece)) (piece_at size c.args.bytes.now) (piece_at size c.fill_part.new.target)) len c.fill_part.ensures)

pub fill_levels-requires : goal.fill_levels-requires
fill_levels-requires t c =
    let place = c.args.place.now in
    let is : data_of c.args.cell.now ≡ optional c.in-Optional.optional.mask (data_of c.in-Optional.optional.data.value) = ap data_of c.in-Optional.is in
    let parts = level_parts c.args.depth place.cell_size 1 _ _ _ is c.requires.data in
    let mid = c.fill_mask.new.masks in
    let rest = mask_room c.args.depth place.count (length c.args.masks.now) parts.0 c.requires.masks_len in
    let len : length (take (length mid - place.count) (drop place.count mid)) ≡ place.count * (c.args.depth - 1) =
    ap length (end_is place.count mid) ∙ length-drop place.count mid ∙ ap (λ n. n - place.count) c.fill_mask.auto.masks ∙ rest.1 in
    let levels = subst (λ (d : ArrayData). HasLevels (c.args.depth - 1) place.cell_size 1 d) (sym c.data.ensures) parts.2 in
    (omega (arith, c.decreases), (c.requires.inside, (c.requires.count, (c.requires.counted, (levels, (c.requires.bytes_len, len))))))

pub returns-in-Optional : goal.returns-in-Optional
returns-in-Optional t c =
    let place = c.args.place.now in
    let n = position_count place.region.now.shape.items in
    let is : data_of c.args.cell.now ≡ optional c.in-Optional.optional.mask (data_of c.in-Optional.optional.data.value) = ap data_of c.in-Optional.is in
    let parts = level_parts c.args.depth place.cell_size _ _ _ _ is c.requires.data in
    let under : data_of c.args.cell.now ≡ optional c.mask.result.now (data_of c.data.result.now) =
    is ∙ ap (λ m. optional m (data_of c.in-Optional.optional.data.value)) (sym c.mask.ensures.mask) ∙ ap (optional c.mask.result.now) (sym c.data.ensures) in
    let mid = c.fill_mask.new.masks in
    let len : length c.fill_levels.new.masks ≡ length mid - place.count = c.fill_levels.auto.masks ∙ ap length (end_is place.count mid) ∙ length-drop place.count mid in
    optional_written place.cell_size (box_at_origin place.shape.now) (box_of place.region.now) c.args.depth place.count
    (repeated n (data_of c.args.cell.now)) (repeated n (data_of c.data.result.now)) (repeat n c.mask.result.now) c.args.masks.now mid c.fill_levels.new.masks c.args.bytes.now c.fill_levels.new.bytes
    (ap (repeated n) under) parts.0 c.fill_mask.ensures.room len c.fill_mask.ensures.filled c.fill_mask.ensures.others c.fill_levels.ensures
