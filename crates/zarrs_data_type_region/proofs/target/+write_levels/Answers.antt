use Rattle.std.proofs.Common.{◌≡◌, ◌∙◌, ◌-◌, ◌*◌, ap, sym, subst, length, take, drop, arith}
use Rattle.zarrs_subset.specs.Boxes.{position_count}
use Rattle.zarrs_subset.specs.Regions.{box_at_origin, box_of}
use Rattle.zarrs_data_type_bytes.specs.ArrayData.{ArrayData, data_of, fixed, optional}
use Rattle.std.proofs.lemmas.List.{length-drop}
use Rattle.zarrs_data_type_region.specs.Targets.{HasLevels}
use Rattle.zarrs_data_type_region.proofs.TargetLevels.{end_is, level_parts, mask_room, fixed_written, optional_written}
use Rattle.zarrs_data_type_region.proofs.target.+write_levels.Goals as goal

pub write_mask-requires-clause-masks_len : goal.write_mask-requires-clause-masks_len
write_mask-requires-clause-masks_len t c =
    let place = c.args.place.now in
    let is : data_of c.args.region_data.now ≡ optional c.in-Optional.optional.mask (data_of c.in-Optional.optional.data.value) = ap data_of c.in-Optional.is in
    let parts = level_parts c.args.depth place.cell_size _ _ _ _ is c.requires.data in
    (mask_room c.args.depth place.count (length c.args.masks.now) parts.0 c.requires.masks_len).0

pub write_mask-requires-clause-mask_len : goal.write_mask-requires-clause-mask_len
write_mask-requires-clause-mask_len t c =
    let is : data_of c.args.region_data.now ≡ optional c.in-Optional.optional.mask (data_of c.in-Optional.optional.data.value) = ap data_of c.in-Optional.is in
    let parts = level_parts c.args.depth c.args.place.now.cell_size _ _ _ _ is c.requires.data in
    ap length c.mask.ensures.mask ∙ parts.1

pub returns-in-Fixed : goal.returns-in-Fixed
returns-in-Fixed t c =
    let place = c.args.place.now in
    let is : data_of c.args.region_data.now ≡ fixed c.as_slice.result.now = ap data_of c.in-Fixed.is ∙ ap fixed (sym c.as_slice.ensures.value) in
    fixed_written place.cell_size (box_at_origin place.shape.now) (box_of place.region.now) c.args.depth place.count _ (data_of c.args.region_data.now)
    c.as_slice.result.now c.args.masks.now c.args.bytes.now c.write_part.new.target is c.requires.data c.write_part.ensures

pub write_levels-requires : goal.write_levels-requires
write_levels-requires t c =
    let place = c.args.place.now in
    let is : data_of c.args.region_data.now ≡ optional c.in-Optional.optional.mask (data_of c.in-Optional.optional.data.value) = ap data_of c.in-Optional.is in
    let n = position_count place.region.now.shape.items in
    let parts = level_parts c.args.depth place.cell_size n _ _ _ is c.requires.data in
    let mid = c.write_mask.new.masks in
    let rest = mask_room c.args.depth place.count (length c.args.masks.now) parts.0 c.requires.masks_len in
    let len : length (take (length mid - place.count) (drop place.count mid)) ≡ place.count * (c.args.depth - 1) =
    ap length (end_is place.count mid) ∙ length-drop place.count mid ∙ ap (λ n. n - place.count) c.write_mask.auto.masks ∙ rest.1 in
    let levels = subst (λ (d : ArrayData). HasLevels (c.args.depth - 1) place.cell_size n d) (sym c.data.ensures) parts.2 in
    (omega (arith, c.decreases), (c.requires.origin, (c.requires.inside, (c.requires.count, (levels, (c.requires.bytes_len, len))))))

pub returns-in-Optional : goal.returns-in-Optional
returns-in-Optional t c =
    let place = c.args.place.now in
    let is : data_of c.args.region_data.now ≡ optional c.in-Optional.optional.mask (data_of c.in-Optional.optional.data.value) = ap data_of c.in-Optional.is in
    let parts = level_parts c.args.depth place.cell_size _ _ _ _ is c.requires.data in
    let under : data_of c.args.region_data.now ≡ optional c.mask.result.now (data_of c.data.result.now) =
    is ∙ ap (λ m. optional m (data_of c.in-Optional.optional.data.value)) (sym c.mask.ensures.mask) ∙ ap (optional c.mask.result.now) (sym c.data.ensures) in
    let mid = c.write_mask.new.masks in
    let len : length c.write_levels.new.masks ≡ length mid - place.count = c.write_levels.auto.masks ∙ ap length (end_is place.count mid) ∙ length-drop place.count mid in
    optional_written place.cell_size (box_at_origin place.shape.now) (box_of place.region.now) c.args.depth place.count
    (data_of c.args.region_data.now) (data_of c.data.result.now) c.mask.result.now c.args.masks.now mid c.write_levels.new.masks c.args.bytes.now c.write_levels.new.bytes
    under parts.0 c.write_mask.ensures.room len c.write_mask.ensures.written c.write_mask.ensures.others c.write_levels.ensures
