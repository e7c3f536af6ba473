use Rattle.std.proofs.Common.{◌+◌, length, ap, ◌∙◌}
use Rattle.std.proofs.lemmas.List.{length_push}
use Rattle.std.specs.Int.NonZero.{non_zero_u64_get}
use Rattle.zarrs_metadata_parts.specs.Lists.{number_data, sizes_of}
use Rattle.zarrs_metadata_parts.proofs.ListLemmas.{list_more, list_written}
use Rattle.zarrs_metadata_parts.proofs.lists.sizes_value.Goals as goal

pub loop-size-preserved : goal.loop-size-preserved
loop-size-preserved c = record {
  written = list_more number_data non_zero_u64_get c.args.sizes.now c.loop-size.size-index c.size-item.result c.loop-size.values.items c.push_reserved.new.self.items c.from.result
      c.loop-size-test.true c.size-item.is c.push_reserved.ensures.items (c.from.ensures ∙ ap number_data c.get.ensures.value) c.loop-size.invariant.written;
  long = ap length c.push_reserved.ensures.items ∙ length_push c.loop-size.values.items c.from.result ∙ ap (λ n. n + 1) c.loop-size.invariant.long;
  room = c.push_reserved.ensures.capacity ∙ c.loop-size.invariant.room;
}

pub returns : goal.returns
returns c = list_written number_data sizes_of c.args.sizes.now c.loop-size.size-index c.loop-size.values c.loop-size-test.false c.loop-size.invariant.written
