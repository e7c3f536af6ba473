use Rattle.std.proofs.Common.{◌≡◌, ◌∙◌, ◌*◌, ◌<◌, ◌^◌, Some, replicate, ap, sym, subst, arith}
use Rattle.std.proofs.lemmas.List.{length-replicate}
use Rattle.zarrs_data_type.specs.ArrayData.{ArrayData, data_of, fixed}
use Rattle.zarrs_data_type.specs.Cell.{Cell, fill_of}
use Rattle.zarrs_data_type.specs.Cells.{cells}
use Rattle.zarrs_data_type.specs.Kind.{kind}
use Rattle.zarrs_data_type_bytes.proofs.FixedSizes.{held_fixed}
use Rattle.zarrs_data_type_kinds.proofs.Values.{fill-value}
use Rattle.zarrs_data_type_region.proofs.TypeSizes.{type_taken}
use Rattle.zarrs_engine.specs.Engine.{layout_of}
use Rattle.zarrs_engine.proofs.RegionLists.{plain_len}
use Rattle.zarrs_engine.proofs.engine.Engine.first_bytes.Goals as goal

pub new_fill_value-requires-clause-size : goal.new_fill_value-requires-clause-size
new_fill_value-requires-clause-size g c =
    let parts = c.args.self.now.layout in
    let k = kind parts.cell_type.data_type in
    let form = c.args.form in
    let held = held_fixed k form.size (fill_of k parts.cell_type.fill_value) (type_taken form.size form.depth k c.requires.takes).0 (fill-value k parts.cell_type.fill_value parts.cell_type.filled) in
    subst (λ n. c.args.count * n < 2 ^ 64) (sym held) c.requires.size

pub returns-clause-len : goal.returns-clause-len
returns-clause-len g c =
    let layout = layout_of c.args.self.now in
    let form = c.args.form in
    let first = c.in_ok-first.first.items in
    let same = c.in_ok-first.ensures.items_if_clones_equal (λ x y h. h) in
    let is : data_of c.in_ok-made.made ≡ fixed first = ap data_of c.in-Fixed.is ∙ ap fixed (sym same) in
    plain_len (data_of c.in_ok-made.made) first layout.kind form.size form.depth c.args.count (replicate c.args.count layout.fill) is (omega arith) c.requires.takes c.in_ok-made.ensures (length-replicate {A = Cell} c.args.count layout.fill)

pub returns-clause-filled : goal.returns-clause-filled
returns-clause-filled g c = λ plain.
    let layout = layout_of c.args.self.now in
    let first = c.in_ok-first.first.items in
    let same = c.in_ok-first.ensures.items_if_clones_equal (λ x y h. h) in
    let is : data_of c.in_ok-made.made ≡ fixed first = ap data_of c.in-Fixed.is ∙ ap fixed (sym same) in
    subst (λ (d : ArrayData). cells layout.kind d ≡ Some (replicate c.args.count layout.fill)) is c.in_ok-made.ensures
