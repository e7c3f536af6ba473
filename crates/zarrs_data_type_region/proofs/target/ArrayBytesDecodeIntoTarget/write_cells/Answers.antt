use Rattle.std.specs.Prelude.{refl}
use Rattle.std.proofs.Common.{◌∙◌, rules}
use Rattle.zarrs_subset.specs.Boxes.{position_count}
use Rattle.zarrs_data_type_bytes.specs.ArrayData.{data_of}
use Rattle.zarrs_data_type_region.specs.Targets.{TakesLevels, masked}
use Rattle.zarrs_data_type_region.specs.States.{data_of_target, parent_box, target_box}
use Rattle.zarrs_data_type_region.proofs.TypeSizes.{type_taken}
use Rattle.zarrs_data_type_region.proofs.TargetLevels.{levels_cells, levels_keep, masked_levels}
use Rattle.zarrs_data_type_region.proofs.Kept.{keeps_itself}
use Rattle.zarrs_data_type_region.proofs.target.ArrayBytesDecodeIntoTarget.write_cells.Goals as goal

pub returns-in_err-origin-clause-kept : goal.returns-in_err-origin-clause-kept
returns-in_err-origin-clause-kept c =
    let t = c.args.self.now in
    keeps_itself t

pub returns-clause-cells : goal.returns-clause-cells
returns-clause-cells c = λ k takes fit.
    let t = c.args.self.now in
    let count = position_count t.parent_shape.now in
    let made = masked t.depth count c.write_levels.new.masks c.write_levels.new.bytes in
    let written : TakesLevels t.cell_size (parent_box t) (target_box t) (data_of c.args.region_data.now) (data_of_target t) made = search rules in
    let levels = masked_levels t.depth t.cell_size count c.write_levels.new.masks c.write_levels.new.bytes
    (c.write_levels.auto.bytes ∙ c.args.self.now.whole.has_bytes) (c.write_levels.auto.masks ∙ c.args.self.now.whole.has_masks) in
    levels_cells k t.cell_size t.depth (position_count t.region.now.shape.items) (parent_box t) (target_box t) (data_of c.args.region_data.now) (data_of_target t) made
    (type_taken t.cell_size t.depth k takes).0 fit levels written

pub returns-clause-kept : goal.returns-clause-kept
returns-clause-kept c =
    let t = c.args.self.now in
    let made = masked t.depth (position_count t.parent_shape.now) c.write_levels.new.masks c.write_levels.new.bytes in
    let written : TakesLevels t.cell_size (parent_box t) (target_box t) (data_of c.args.region_data.now) (data_of_target t) made = search rules in
    record { same = record { bytes = refl; masks = refl; cell_size = refl; depth = refl; parent_shape = refl; region = refl }; outside = levels_keep t.cell_size (parent_box t) (target_box t) (data_of c.args.region_data.now) (data_of_target t) made written }
