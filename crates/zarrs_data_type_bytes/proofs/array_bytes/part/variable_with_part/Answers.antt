use Rattle.std.proofs.Common.{◌≡◌, ◌∙◌, ℕ, List, ap, length, subst, sym}
use Rattle.zarrs_data_type_kinds.specs.Kind.{kind}
use Rattle.zarrs_subset.specs.Regions.{box_of}
use Rattle.zarrs_data_type_bytes.specs.ArrayData.{ArrayData, data_of, variable}
use Rattle.zarrs_data_type_bytes.specs.Parts.{TakesAt, TakesEach}
use Rattle.zarrs_data_type_bytes.specs.Places.{string_of}
use Rattle.zarrs_data_type_bytes.proofs.Parts.{takes-variable}
use Rattle.zarrs_data_type_bytes.proofs.array_bytes.part.variable_with_part.Goals as goal

pub returns : goal.returns
returns c =
    let k = kind c.args.data_type.now in
    let box = box_of c.args.held_box.now in
    let other = box_of c.args.part_box.now in
    let given = c.in-Variable.given in
    let made = c.in_ok-into_strings.field-0 in
    let same : made ≡ c.in_ok-made.made = c.in_ok-into_strings.ensures in
    let part_is : data_of c.args.part.now ≡ variable given = ap data_of c.in-Variable.is in
    let taken = subst (λ (h : List (List ℕ)). TakesAt box other (string_of given) (string_of h) (string_of made)) c.in_ok-held.ensures
    (subst (λ (m : List (List ℕ)). TakesAt box other (string_of given) (string_of c.in_ok-held.held) (string_of m)) (sym same) c.in_ok-made.ensures.strings) in
    subst (λ (d : ArrayData). TakesEach k box other d (variable c.args.strings) (variable made)) (sym part_is)
    (takes-variable k box other given c.args.strings made c.requires.held (ap (λ (l : List (List ℕ)). length l) same ∙ c.in_ok-made.ensures.len) taken)
