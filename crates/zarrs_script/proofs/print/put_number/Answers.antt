use Rattle.std.proofs.Common.{◌≡◌, ◌++◌, ◌∷◌, [], ℕ, List, true, ap, sym, ◌∙◌, append_assoc, arith}
use Rattle.std.proofs.lemmas.Result.{on_ok_weaker}
use Rattle.zarrs_script.specs.CellTypes.{is_signed}
use Rattle.zarrs_script.proofs.Texts.{signed_below, negative_text}
use Rattle.zarrs_script.proofs.print.put_number.Goals as goal

pub overflow_sub-greatest : goal.overflow_sub-greatest
overflow_sub-greatest c =
    let signed : is_signed c.args.cell_type ≡ true = sym c.is_signed.ensures ∙ c.if-is_signed.true in
    let below = signed_below c.args.cell_type c.args.cell.now signed c.requires (λ i. let f = c.type_inv.cell i in omega arith) in
    let most = c.greatest-then-value-greatest.ensures in
    let value = c.value_of-value.ensures in
    rw (value, most) below

pub returns-then-value-greatest : goal.returns-then-value-greatest
returns-then-value-greatest c =
    let signed : is_signed c.args.cell_type ≡ true = sym c.is_signed.ensures ∙ c.if-is_signed.true in
    let below = signed_below c.args.cell_type c.args.cell.now signed c.requires (λ i. let f = c.type_inv.cell i in omega arith) in
    let same = c.greatest-then-value-greatest.ensures ∙ sym c.greatest.ensures in
    let above = c.if-value-greatest.true in
    let text = λ (digits : List ℕ). ap (λ (out : List ℕ). out ++ digits) c.in_ok-push.ensures.items ∙ append_assoc c.args.out.now.items (45 ∷ []) digits in
    rw (negative_text c.args.cell_type c.args.cell.now c.greatest-then-value-greatest.result c.value_of-value.result c.greatest-then-value-greatest.ensures c.value_of-value.ensures signed (rw same above) (rw (c.value_of-value.ensures, c.greatest-then-value-greatest.ensures) below))
    (on_ok_weaker c.put_decimal.result (λ is. is ∙ text _) c.put_decimal.ensures)
