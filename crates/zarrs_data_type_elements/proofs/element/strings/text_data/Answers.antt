use Rattle.std.proofs.Common.{map, refl, ap, ◌∙◌, sym}
use Rattle.std.specs.List.{list_all}
use Rattle.std.specs.Str.{is_utf8}
use Rattle.std.proofs.lemmas.List.{take_all}
use Rattle.std.proofs.lemmas.Str.{is_utf8-from_IsUtf8}
use Rattle.zarrs_data_type_kinds.specs.Kind.{kind}
use Rattle.zarrs_data_type_kinds.specs.Kind as type
use Rattle.zarrs_data_type_elements.proofs.StringCells.{written_more, all_more, cells-made, kind_is}
use Rattle.zarrs_data_type_elements.proofs.element.strings.text_data.Goals as goal

pub loop-text-preserved : goal.loop-text-preserved
loop-text-preserved g c =
    let text = c.as_bytes.result.now in
    record {
      strings = written_more g.S.AsStr.text c.args.texts.now c.loop-text.text-index c.text-item.result c.loop-text.strings c.push.new.self text c.loop-text-test.true c.text-item.is
          c.loop-text.invariant.strings (c.as_bytes.ensures.value ∙ c.as_str.ensures) c.in_ok-push.ensures.pushed;
      texts = all_more (λ s. is_utf8 s) c.loop-text.strings c.push.new.self text c.loop-text.invariant.texts (is_utf8-from_IsUtf8 text c.as_bytes.ensures.utf8) c.in_ok-push.ensures.pushed;
    }

pub returns-clause-cells : goal.returns-clause-cells
returns-clause-cells g c =
    let k = kind c.args.data_type.now in
    let texts = c.args.texts.now in
    cells-made g.S.AsStr.text k type.string texts c.finish.result (kind_is k type.string (sym c.serves.ensures ∙ c.in_ok-check_served.ensures.served)) refl
    (c.finish.ensures ∙ c.loop-text.invariant.strings ∙ ap (map g.S.AsStr.text) (take_all c.loop-text.text-index texts c.loop-text-test.false))
    (ap (list_all (λ s. is_utf8 s)) c.finish.ensures ∙ c.loop-text.invariant.texts)
