use Rattle.std.proofs.Common.{◌≡◌, ◌==◌, ℕ, List, false, length, ap, sym, subst, ◌∙◌, rules}
use Rattle.std.specs.Str.{bytes_eq}
use Rattle.std.specs.List.{slice_split}
use Rattle.std.specs.Slice.Iter as slice
use Rattle.std.proofs.lemmas.List.{length_push}
use Rattle.std.proofs.lemmas.Iterator.Splits.{YieldsList-from_slice_split}
use Rattle.zarrs_script.specs.Words.{each_of}
use Rattle.zarrs_script.specs.CellTexts.{cell_of, cells_of, joined_cells}
use Rattle.zarrs_script.specs.Parsed.{Fails}
use Rattle.zarrs_script.proofs.Lists.{turn, ended, one_cell, fails_at, all_cells, items_joined}
use Rattle.zarrs_script.proofs.parse.cells_of.Goals as goal

pub returns-in_err-push_cell : goal.returns-in_err-push_cell
returns-in_err-push_cell c =
    let same = c.into_iter-item-iterator.ensures.into_iter_gives in
    let t = turn c.loop-item.yielded _ c.loop-item.yielded_by _ _ c.in-Some.item c.in-Some.is c.next.ensures.steps (YieldsList-from_slice_split _ (λ b. b == 44) c.args.word.now (ap slice.split_rest same ∙ c.split-item-items.ensures.rest) (ap slice.split_done same ∙ c.split-item-items.ensures.done) (ap slice.split_callee same ∙ c.split-item-items.ensures.closure) (λ x b q h. search rules)) in
    let parts = slice_split (λ b. b == 44) c.args.word.now in
    let whole : Fails c.in_err-push_cell.field-0.0 (cells_of c.args.cell_type c.args.word.now) = fails_at c.in_err-push_cell.field-0.0 (cell_of c.args.cell_type) c.loop-item.cells.items parts (length c.loop-item.yielded) c.in-Some.item.now (cells_of c.args.cell_type c.args.word.now) t c.in_err-push_cell.ensures (c.loop-item.invariant ∙ sym (ap (λ (ws : List (List ℕ)). joined_cells (each_of (cell_of c.args.cell_type) ws)) (items_joined c.args.word.now (subst (λ (dash : List ℕ). bytes_eq c.args.word.now dash ≡ false) c.as_slice.ensures (sym c.if-eq.ensures))))) in
    let r = c.from_residual.ensures in
    search rules

pub loop-item-preserved : goal.loop-item-preserved
loop-item-preserved c =
    let same = c.into_iter-item-iterator.ensures.into_iter_gives in
    let t = turn c.loop-item.yielded _ c.loop-item.yielded_by _ _ c.in-Some.item c.in-Some.is c.next.ensures.steps (YieldsList-from_slice_split _ (λ b. b == 44) c.args.word.now (ap slice.split_rest same ∙ c.split-item-items.ensures.rest) (ap slice.split_done same ∙ c.split-item-items.ensures.done) (ap slice.split_callee same ∙ c.split-item-items.ensures.closure) (λ x b q h. search rules)) in
    rw (length_push c.loop-item.yielded c.in-Some.item)
    (sym (one_cell (cell_of c.args.cell_type) c.loop-item.cells.items c.push_cell.new.cells.items (slice_split (λ b. b == 44) c.args.word.now) (length c.loop-item.yielded) c.in-Some.item.now t c.in_ok-push_cell.ensures) ∙ c.loop-item.invariant)

pub returns : goal.returns
returns c =
    let same = c.into_iter-item-iterator.ensures.into_iter_gives in
    let t = ended c.loop-item.yielded _ c.loop-item.yielded_by _ _ c.in-None.is c.next.ensures.steps (YieldsList-from_slice_split _ (λ b. b == 44) c.args.word.now (ap slice.split_rest same ∙ c.split-item-items.ensures.rest) (ap slice.split_done same ∙ c.split-item-items.ensures.done) (ap slice.split_callee same ∙ c.split-item-items.ensures.closure) (λ x b q h. search rules)) in
    ap (λ (ws : List (List ℕ)). joined_cells (each_of (cell_of c.args.cell_type) ws)) (items_joined c.args.word.now (subst (λ (dash : List ℕ). bytes_eq c.args.word.now dash ≡ false) c.as_slice.ensures (sym c.if-eq.ensures))) ∙ sym c.loop-item.invariant ∙ all_cells (cell_of c.args.cell_type) c.loop-item.cells.items (slice_split (λ b. b == 44) c.args.word.now) (length c.loop-item.yielded) t
