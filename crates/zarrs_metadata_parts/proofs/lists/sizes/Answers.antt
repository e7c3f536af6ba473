use Rattle.serde_json.specs.View.{view}
use Rattle.zarrs_metadata_parts.proofs.ListLemmas.{all_read, none_read}
use Rattle.zarrs_metadata_parts.specs.Lists.{sizes_of, size_said}
use Rattle.zarrs_metadata_parts.proofs.lists.sizes.Goals as goal

pub returns-in-None : goal.returns-in-None
returns-in-None c =
    none_read size_said (view c.args.value.now) c.in-Some.items.now.items c.deref-item-items.result.now c.loop-item.item-index c.item-item.result (sizes_of c.loop-item.sizes.items)
    c.in-Some.ensures c.deref-item-items.ensures.value c.loop-item-test.true c.item-item.is c.in-None.ensures c.loop-item.invariant

pub returns : goal.returns
returns c =
    all_read size_said (view c.args.value.now) c.in-Some.items.now.items c.deref-item-items.result.now c.loop-item.item-index (sizes_of c.loop-item.sizes.items)
    c.in-Some.ensures c.deref-item-items.ensures.value c.loop-item-test.false c.loop-item.invariant
