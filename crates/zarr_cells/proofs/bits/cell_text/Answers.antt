use Rattle.std.proofs.Common.{◌≡◌, ◌++◌, length, string_bytes, ap, ◌∙◌, arith}
use Rattle.std.specs.Prelude.{vec_items}
use Rattle.hex.specs.Hex.{IsBytes}
use Rattle.zarr_cells.specs.Numbers.{cell_in}
use Rattle.zarr_cells.proofs.WordLemmas.{cell_says}
use Rattle.zarr_cells.proofs.bits.cell_text.Goals as goal

pub returns-in-Ok : goal.returns-in-Ok
returns-in-Ok c =
    let cell = c.args.cell.now in
    let said = c.in_ok-write_bits.ensures in
    let small : IsBytes cell = λ i. let fits = c.type_inv.cell i in omega arith in
    let same : string_bytes c.in-Ok.text ≡ said.word =
    ap vec_items c.in-Ok.ensures.ok ∙ said.written ∙ ap (λ l. l ++ said.word) c.new-text.ensures.items in
    ap (cell_in c.args.form (length cell)) same ∙ cell_says c.args.form said.word cell c.cell_bits.result (omega arith) small c.cell_bits.ensures said.says
