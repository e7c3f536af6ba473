use Rattle.std.proofs.Common.{◌<◌, [], length, ap, sym, ◌∙◌, arith}
use Rattle.std.specs.Str.{is_utf8}
use Rattle.std.proofs.lemmas.Bool.{and_from}
use Rattle.std.proofs.lemmas.List.Folds.{list_all_at, list_all_more}
use Rattle.zarrs_data_type_bytes.proofs.AsciiTexts.{ascii_texts, ascii_test}
use Rattle.zarrs_data_type_bytes.proofs.variable.ArrayBytesVariableLength.are_utf8.Goals as goal

pub returns-then-are_ascii : goal.returns-then-are_ascii
returns-then-are_ascii c =
    sym (ascii_texts c.args.self.now (ap ascii_test (sym c.bytes.ensures) ∙ sym c.are_ascii.ensures ∙ c.if-are_ascii.true))

pub returns-then-not-is_text : goal.returns-then-not-is_text
returns-then-not-is_text c =
    let strings = c.args.self.now in
    let lt : c.loop-index.index < length strings = omega (arith, c.loop-index-test.true, c.len-index-end.ensures) in
    sym (list_all_at is_utf8 strings c.loop-index.index [] lt (ap is_utf8 (sym c.get.ensures) ∙ sym c.is_text.ensures ∙ c.if-not-is_text.true))

pub loop-index-preserved : goal.loop-index-preserved
loop-index-preserved c =
    let strings = c.args.self.now in
    let i = c.loop-index.index in
    let lt : i < length strings = omega (arith, c.loop-index-test.true, c.len-index-end.ensures) in
    list_all_more is_utf8 strings i [] lt
    ∙ and_from _ _ c.loop-index.invariant (ap is_utf8 (sym c.get.ensures) ∙ sym c.is_text.ensures ∙ c.if-not-is_text.false)
