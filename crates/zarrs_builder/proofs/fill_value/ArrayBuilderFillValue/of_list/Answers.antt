use Rattle.std.proofs.Common.{◌≤◌, length, ap, ◌∙◌, arith}
use Rattle.std.proofs.lemmas.List.{take_all}
use Rattle.serde_json.proofs.Views.{view-Array}
use Rattle.zarrs_builder.specs.Given.{by_metadata}
use Rattle.zarrs_builder.proofs.Fields.{zip_more}
use Rattle.zarrs_builder.proofs.fill_value.ArrayBuilderFillValue.of_list.Goals as goal

pub loop-item-preserved : goal.loop-item-preserved
loop-item-preserved g c =
    rw c.in_ok-push.ensures.items (zip_more g.T.Into.converts c.args.items.now c.loop-item.values.items c.loop-item.item-index c.item-item.result c.into.result c.loop-item-test.true c.item-item.is c.loop-item.invariant c.into.ensures)

pub returns : goal.returns
returns g c =
    let past : length c.args.items.now ≤ c.loop-item.item-index = omega arith in
    record {
      values = c.loop-item.values.items;
      each = rw (take_all c.loop-item.item-index c.args.items.now past) at c.loop-item.invariant;
      is = c.of_value.ensures ∙ ap by_metadata (view-Array c.loop-item.values);
    }
