use Rattle.std.proofs.Common.{◌≡◌, ◌<◌, [], length, get_or, string_bytes, sym, ap, true, ◌∙◌, arith}
use Rattle.std.specs.Str.{is_utf8}
use Rattle.std.proofs.lemmas.Str.{is_utf8-from_IsUtf8}
use Rattle.zarrs_data_type_elements.proofs.StringCells.{read_more, all_take_more, not_all_texts}
use Rattle.zarrs_data_type_elements.proofs.element.strings.texts_of.Goals as goal

pub returns-in_default : goal.returns-in_default
returns-in_default c =
    let below : c.loop-index.index < length c.args.strings.now = omega (arith, c.len-index-end.ensures) in
    not_all_texts c.args.strings.now c.loop-index.index c.get.result.now below c.get.ensures c.in_default.ensures.cases.0

pub loop-index-preserved : goal.loop-index-preserved
loop-index-preserved c =
    let below : c.loop-index.index < length c.args.strings.now = omega (arith, c.len-index-end.ensures) in
    let cases = c.in-Ok.ensures.cases in
    let text : is_utf8 (get_or c.args.strings.now c.loop-index.index []) ≡ true = ap is_utf8 (sym c.get.ensures) ∙ is_utf8-from_IsUtf8 c.get.result.now cases.1 in (
      read_more string_bytes c.args.strings.now c.loop-index.index c.in_ok-from_str.field-0 c.loop-index.texts.items c.push.new.self.items below c.loop-index.invariant.0
          (c.in_ok-from_str.ensures.ok ∙ cases.0 ∙ c.get.ensures) c.in_ok-push.ensures.items,
      all_take_more (λ s. is_utf8 s) c.args.strings.now c.loop-index.index below c.loop-index.invariant.1 text,
    )
