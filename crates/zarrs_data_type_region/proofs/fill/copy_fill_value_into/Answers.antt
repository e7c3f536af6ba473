use Rattle.std.specs.Prelude.{refl}
use Rattle.std.proofs.Common.{◌≡◌, ◌∙◌, arith, rules}
use Rattle.zarrs_subset.specs.Boxes.{position_count}
use Rattle.zarrs_data_type_kinds.specs.Kind.{kind}
use Rattle.zarrs_data_type_kinds.specs.Cell.{fill_of, held_size}
use Rattle.zarrs_data_type_kinds.proofs.Values.{fill-value}
use Rattle.zarrs_data_type_bytes.specs.ArrayData.{data_of}
use Rattle.zarrs_data_type_region.specs.States.{parent_box, target_box, data_of_target}
use Rattle.zarrs_data_type_region.specs.Targets.{TakesLevels, masked, repeated}
use Rattle.zarrs_data_type_region.proofs.TypeSizes.{type_taken, levels_of}
use Rattle.zarrs_data_type_region.proofs.TargetLevels.{levels_keep, masked_levels}
use Rattle.zarrs_data_type_region.proofs.Kept.{keeps_itself}
use Rattle.zarrs_data_type_region.proofs.Fills.{filled_fits, levels_filled}
use Rattle.zarrs_data_type_region.proofs.fill.copy_fill_value_into.Goals as goal
use Rattle.zarrs_data_type_bytes.proofs.FixedSizes.{held_fixed}

pub new_fill_value-requires-clause-size : goal.new_fill_value-requires-clause-size
new_fill_value-requires-clause-size c =
    let t = c.args.target.now in
    let k = kind c.args.data_type.now in
    let fill = fill_of k c.args.fill_value.now in
    let size : held_size k fill ≡ t.cell_size = held_fixed k t.cell_size fill (type_taken t.cell_size t.depth k c.requires.takes).0 (fill-value k c.args.fill_value.now c.requires.filled) in
    omega (arith, size)

pub returns-in_err-cell-clause-kept : goal.returns-in_err-cell-clause-kept
returns-in_err-cell-clause-kept c =
    let t = c.args.target.now in
    keeps_itself t

pub fill_levels-requires-clause-data : goal.fill_levels-requires-clause-data
fill_levels-requires-clause-data c =
    let t = c.args.target.now in
    let k = kind c.args.data_type.now in
    let made = data_of c.in_ok-cell.cell in
    levels_of k t.cell_size t.depth 1 made c.requires.takes (filled_fits k made 1 (fill_of k c.args.fill_value.now) c.in_ok-cell.ensures)

pub returns-clause-fills : goal.returns-clause-fills
returns-clause-fills c =
    let t = c.args.target.now in
    let k = kind c.args.data_type.now in
    let count = position_count t.parent_shape.now in
    let cell = data_of c.in_ok-cell.cell in
    let made = masked t.depth count c.fill_levels.new.masks c.fill_levels.new.bytes in
    let n = position_count t.region.now.shape.items in
    let written : TakesLevels t.cell_size (parent_box t) (target_box t) (repeated n cell) (data_of_target t) made = search rules in
    let levels = masked_levels t.depth t.cell_size count c.fill_levels.new.masks c.fill_levels.new.bytes
    (c.fill_levels.auto.bytes ∙ c.args.target.now.whole.has_bytes) (c.fill_levels.auto.masks ∙ c.args.target.now.whole.has_masks) in
    levels_filled k t.cell_size t.depth (parent_box t) (target_box t) (fill_of k c.args.fill_value.now) cell (data_of_target t) made t.region.now.same_length
    (type_taken t.cell_size t.depth k c.requires.takes).0 c.in_ok-cell.ensures levels written

pub returns-clause-kept : goal.returns-clause-kept
returns-clause-kept c =
    let t = c.args.target.now in
    let count = position_count t.parent_shape.now in
    let cell = data_of c.in_ok-cell.cell in
    let made = masked t.depth count c.fill_levels.new.masks c.fill_levels.new.bytes in
    let n = position_count t.region.now.shape.items in
    let written : TakesLevels t.cell_size (parent_box t) (target_box t) (repeated n cell) (data_of_target t) made = search rules in
    record { same = record { bytes = refl; masks = refl; cell_size = refl; depth = refl; parent_shape = refl; region = refl }; outside = levels_keep t.cell_size (parent_box t) (target_box t) (repeated n cell) (data_of_target t) made written }
