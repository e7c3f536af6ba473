use Rattle.std.proofs.Common.{◌≡◌, ◌+◌, ◌*◌, ◌∷◌, [], ◌++◌, ℕ, List, take, slice_range, Some, refl, sym, ap, ◌∙◌, append_assoc, arith}
use Rattle.std.specs.List.{join_with_byte}
use Rattle.zarrs_script.specs.CellTexts.{number_text}
use Rattle.zarrs_script.proofs.Texts.{texts, text_at, shown, first_cell, one_text, all_texts}
use Rattle.zarrs_script.proofs.Printing.{puts_pending, puts_more, puts_spilled}
use Rattle.zarrs_script.proofs.print.put_cells.Goals as goal

pub loop-index-init : goal.loop-index-init
loop-index-init g c =
    let out = c.args.out.now.items in
    let held = c.args.bytes.now in
    puts_pending (g.W.Write.contents c.args.writer.now) out c.put_number.new.out.items (text_at c.args.cell_type held 0)
    (c.in_ok-put_number.ensures ∙ ap (λ (n : ℕ). out ++ number_text c.args.cell_type (take n held)) c.size-size.ensures ∙ ap (λ (cell : List ℕ). out ++ number_text c.args.cell_type cell) (first_cell c.args.cell_type held)) refl

pub loop-index-preserved : goal.loop-index-preserved
loop-index-preserved g c =
    let old = g.W.Write.contents c.args.writer.now in
    let l = c.loop-index in
    let mid = g.W.Write.contents l.writer in
    let held = c.args.bytes.now in
    let out = c.args.out.now.items in
    let printed = c.put_number-in-loop-index.new.out.items in
    let is : printed ≡ l.out.items ++ 44 ∷ text_at c.args.cell_type held l.index =
    c.in_ok-put_number-2.ensures ∙ ap (λ (xs : List ℕ). xs ++ number_text c.args.cell_type (slice_range held (l.index * c.size-size.result) (l.index * c.size-size.result + c.size-size.result))) c.in_ok-push.ensures.items
    ∙ append_assoc l.out.items (44 ∷ []) _ ∙ ap (λ (n : ℕ). l.out.items ++ 44 ∷ number_text c.args.cell_type (slice_range held (l.index * n) (l.index * n + n))) c.size-size.ensures in
    let from = l.auto.index in
    puts_spilled {P = λ text. text ≡ join_with_byte 44 (texts c.args.cell_type held (l.index + 1))} old mid (g.W.Write.contents c.write_pending.new.writer) out printed c.write_pending.new.out.items
    (puts_more old mid mid out l.out.items printed l.invariant
    (puts_pending {P = λ text. text ≡ 44 ∷ text_at c.args.cell_type held l.index} mid l.out.items printed (44 ∷ text_at c.args.cell_type held l.index) is refl)
    (λ first second p q. ap (λ (xs : List ℕ). xs ++ second) p ∙ ap (λ (ys : List ℕ). join_with_byte 44 (texts c.args.cell_type held l.index) ++ ys) q ∙ sym (one_text c.args.cell_type held l.index (omega arith))))
    c.in_ok-write_pending.ensures

pub returns : goal.returns
returns g c =
    let old = g.W.Write.contents c.args.writer.now in
    let l = c.loop-index in
    let mid = g.W.Write.contents l.writer in
    let held = c.args.bytes.now in
    let size = c.size-size.ensures in
    let whole = all_texts c.args.cell_type held l.index (shown c.args.cell_type held c.requires) (rw size at c.if-bytes-size.false) (rw size at c.loop-index-test.false) (rw size at l.auto.index-end) in
    puts_more old mid mid c.args.out.now.items l.out.items c.push-2.new.self.items l.invariant
    (puts_pending {P = λ text. text ≡ 10 ∷ []} mid l.out.items c.push-2.new.self.items (10 ∷ []) c.in_ok-push-2.ensures.items refl)
    (λ first second p q. whole ∙ ap (λ (xs : List ℕ). Some (xs ++ 10 ∷ [])) (sym p) ∙ ap (λ (ys : List ℕ). Some (first ++ ys)) (sym q))
