use Rattle.std.proofs.Common.{◌≡◌, ◌↔◌, IsTrue, Some, ◌∙◌, sym, subst}
use Rattle.std.proofs.lemmas.Bool.{false≢true}
use Rattle.zarrs_data_type_bytes.specs.ArrayData.{fixed}
use Rattle.zarrs_data_type_bytes.specs.Cells.{HasCells}
use Rattle.zarrs_data_type_kinds.specs.Kind.{kind, element_size}
use Rattle.zarrs_data_type_bytes.proofs.Fixed.{HasCells-fixed, length-fixed}
use Rattle.zarrs_data_type_kinds.proofs.Sizes.{element_size-positive}
use Rattle.zarrs_data_type_bytes.proofs.array_bytes.fixed.has_cells.Goals as goal

pub returns-then-is_size_of : goal.returns-then-is_size_of
returns-then-is_size_of c =
    let k = kind c.args.data_type.now in
    let b = c.args.bytes.now in
    let is : element_size k ≡ Some c.in-Some.size = sym c.element_size.ensures ∙ c.in-Some.is in
    subst (λ r. IsTrue r ↔ HasCells k (fixed b) c.args.count) (sym c.may_hold.ensures)
    (HasCells-fixed k c.in-Some.size is b c.args.count (element_size-positive c.args.data_type.now c.in-Some.size is) (c.is_size_of.ensures.0 c.if-is_size_of.true))

pub returns-else-is_size_of : goal.returns-else-is_size_of
returns-else-is_size_of c =
    let k = kind c.args.data_type.now in
    let is : element_size k ≡ Some c.in-Some.size = sym c.element_size.ensures ∙ c.in-Some.is in (
      (λ test. absurd (false≢true (sym c.if-is_size_of.false ∙ test))),
      (λ has. c.is_size_of.ensures.1 (length-fixed k c.in-Some.size is c.args.bytes.now c.args.count has)),
    )
