use Rattle.std.proofs.Common.{map}
use Rattle.serde_json.specs.View.{view}
use Rattle.zarrs_metadata_parts.proofs.ListLemmas.{all_read, none_read}
use Rattle.zarrs_chunk_grid.specs.Configurations.{sizes_view}
use Rattle.zarrs_chunk_grid.specs.Metadata.{sizes_said}
use Rattle.zarrs_chunk_grid.proofs.metadata.dimensions_from.Goals as goal

pub returns-in-None : goal.returns-in-None
returns-in-None c =
    none_read sizes_said (view c.args.value.now) c.in-Some.items.now.items c.deref-item-items.result.now c.loop-item.item-index c.item-item.result (map sizes_view c.loop-item.dimensions.items)
    c.in-Some.ensures c.deref-item-items.ensures.value c.loop-item-test.true c.item-item.is (rw c.in-None.is at c.in_ok-sizes.ensures) c.loop-item.invariant

pub returns : goal.returns
returns c =
    all_read sizes_said (view c.args.value.now) c.in-Some.items.now.items c.deref-item-items.result.now c.loop-item.item-index (map sizes_view c.loop-item.dimensions.items)
    c.in-Some.ensures c.deref-item-items.ensures.value c.loop-item-test.false c.loop-item.invariant
