use Rattle.std.proofs.Common.{◌≡◌, ◌∙◌, true, ap, sym, subst}
use Rattle.zarrs_data_type_kinds.specs.Kind.{kind}
use Rattle.zarrs_data_type_kinds.proofs.Sizes.{element_size-positive}
use Rattle.zarrs_subset.specs.Boxes.{position_count}
use Rattle.zarrs_subset.specs.Regions.{box_of}
use Rattle.zarrs_data_type_bytes.specs.ArrayData.{ArrayData, data_of, variable}
use Rattle.zarrs_data_type_bytes.specs.Cells.{fits}
use Rattle.zarrs_data_type_bytes.specs.Parts.{ExtractsEach}
use Rattle.zarrs_data_type_bytes.proofs.Parts.{extracts-variable}
use Rattle.zarrs_data_type_bytes.proofs.array_bytes.ArrayBytes.+extract.Goals as goal

pub extract_bytes-requires-clause-positive : goal.extract_bytes-requires-clause-positive
extract_bytes-requires-clause-positive t c = element_size-positive c.args.data_type.now c.unwrap-size.result (sym c.element_size.ensures ∙ c.unwrap-size.ensures)

pub returns-in_ok-extract_strings-in-Variable : goal.returns-in_ok-extract_strings-in-Variable
returns-in_ok-extract_strings-in-Variable t c =
    let k = kind c.args.data_type.now in
    let strings = c.in-Variable.strings in
    let held : data_of c.args.self.now ≡ variable strings = ap data_of c.in-Variable.is in
    let count = position_count (box_of c.args.held_box.now).shape in
    let fit : fits k (variable strings) count ≡ true = subst (λ (d : ArrayData). fits k d count ≡ true) held c.requires.held in
    subst (λ (d : ArrayData). ExtractsEach k (box_of c.args.held_box.now) d (box_of c.args.subset.now) (variable c.in_ok-extract_strings-in-Variable.field-0)) (sym held)
    (extracts-variable k (box_of c.args.held_box.now) (box_of c.args.subset.now) strings c.in_ok-extract_strings-in-Variable.field-0 count
    c.args.subset.now.same_length fit c.in_ok-extract_strings-in-Variable.ensures)
