use Rattle.std.proofs.Common.{◌≡◌, ◌*◌, ◌<◌, ◌^◌, ℕ, true, Option, None, Some, refl, sym, subst, ◌∙◌}
use Rattle.std.specs.Prelude.{is_some}
use Rattle.zarrs_data_type_kinds.specs.Cell.{fill_of}
use Rattle.zarrs_data_type_kinds.specs.Kind.{kind, fixed_size}
use Rattle.zarrs_data_type_kinds.proofs.Values.{fill-value}
use Rattle.zarrs_data_type_bytes.proofs.FixedSizes.{held_fixed, size_is}
use Rattle.zarrs_data_type_bytes.proofs.Made.{cells-filled}
use Rattle.zarrs_data_type_region.specs.RegionData.{level_data}
use Rattle.zarrs_data_type_region.proofs.region_cells.RegionCells.new_fill_value.Goals as goal

known : (o : Option ℕ) → is_some o ≡ true → (size : ℕ) × (o ≡ Some size)
known None is = absurd (cc)
known (Some size) is = (size, refl)

pub new_fill_value-requires-clause-size : goal.new_fill_value-requires-clause-size
new_fill_value-requires-clause-size c =
    let k = kind c.args.data_type.now in
    let size = known (fixed_size k) (sym c.is_fixed.ensures ∙ c.if-is_fixed.true) in
    let held = held_fixed k size.0 (fill_of k c.args.fill_value.now) size.1 (fill-value k c.args.fill_value.now c.requires.filled) in
    subst (λ n. c.args.count * n < 2 ^ 64) (size_is k size.0 size.1 ∙ sym held) c.requires.size

pub returns : goal.returns
returns c =
    cells-filled c.args.data_type.now (level_data c.in_ok-made-2.made) c.args.count c.args.fill_value.now c.requires.filled (rw (sym c.as_bytes.ensures) c.in_ok-made-2.ensures)
