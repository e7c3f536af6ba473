use Rattle.std.proofs.Common.{ap, sym, ◌∙◌}
use Rattle.zarrs_data_type_bytes.specs.ArrayData.{data_of}
use Rattle.zarrs_data_type_bytes.specs.Cells.{fits}
use Rattle.zarrs_data_type_kinds.specs.Kind.{kind}
use Rattle.zarrs_data_type_bytes.proofs.Validity.{HasCells-any, HasCells-fits, HasCells-texts, tested_true, tested_false}
use Rattle.zarrs_data_type_bytes.proofs.array_bytes.ArrayBytes.validate.Goals as goal

pub returns-then-not-fits : goal.returns-then-not-fits
returns-then-not-fits c =
    tested_false (HasCells-fits (kind c.args.data_type.now) (data_of c.args.self.now) c.args.count (sym c.fits.ensures ∙ c.if-not-fits.true))

pub returns-then-takes_any_bytes : goal.returns-then-takes_any_bytes
returns-then-takes_any_bytes c =
    tested_true (HasCells-any c.args.data_type.now (data_of c.args.self.now) c.args.count (sym c.takes_any_bytes.ensures ∙ c.if-takes_any_bytes.true) (sym c.fits.ensures ∙ c.if-not-fits.false))

pub returns-in-Variable : goal.returns-in-Variable
returns-in-Variable c =
    let k = kind c.args.data_type.now in
    let held = sym c.fits.ensures ∙ c.if-not-fits.false in
    rw c.in-Variable.is (HasCells-texts c.args.data_type.now c.in-Variable.strings c.args.count c.are_utf8.result (sym c.takes_any_bytes.ensures ∙ c.if-takes_any_bytes.false)
    (ap (λ d. fits k (data_of d) c.args.count) (sym c.in-Variable.is) ∙ held) c.are_utf8.ensures)
