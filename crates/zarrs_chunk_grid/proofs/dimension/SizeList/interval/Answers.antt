use Rattle.std.proofs.Common.{◌<◌, length, ap, arith}
use Rattle.std.specs.Int.NonZero.{non_zero_u64_get}
use Rattle.std.proofs.lemmas.List.{get_or_read, length-map}
use Rattle.zarrs_metadata_parts.specs.Lists.{sizes_of}
use Rattle.zarrs_chunk_grid.proofs.SizesLemmas.{ends_long, interval_from_end}
use Rattle.zarrs_chunk_grid.proofs.dimension.SizeList.interval.Goals as goal

pub index-requires : goal.index-requires
index-requires c = omega (arith, ap length c.args.self.now.summed, ends_long (sizes_of c.args.self.now.sizes.items), length-map c.args.self.now.sizes.items non_zero_u64_get)

pub overflow_sub-result : goal.overflow_sub-result
overflow_sub-result c =
    let list = c.args.self.now in
    let inside : c.args.number < length list.sizes.items = omega arith in
    let in_ends : c.args.number < length list.ends.items = omega (arith, ap length list.summed, ends_long (sizes_of list.sizes.items), length-map list.sizes.items non_zero_u64_get) in
    let end_is = get_or_read list.ends.items c.args.number c.index.result.now in_ends c.index.ensures 0 in
    let there = interval_from_end list.sizes.items c.args.number c.index.result.now c.index-extent.result.now inside c.index-extent.ensures (rw list.summed at end_is) in
    rw c.get.ensures.value there.0

pub returns-clause-some : goal.returns-clause-some
returns-clause-some c =
    let list = c.args.self.now in
    let inside : c.args.number < length list.sizes.items = omega arith in
    let in_ends : c.args.number < length list.ends.items = omega (arith, ap length list.summed, ends_long (sizes_of list.sizes.items), length-map list.sizes.items non_zero_u64_get) in
    let end_is = get_or_read list.ends.items c.args.number c.index.result.now in_ends c.index.ensures 0 in
    let there = interval_from_end list.sizes.items c.args.number c.index.result.now c.index-extent.result.now inside c.index-extent.ensures (rw list.summed at end_is) in
    rw c.get.ensures.value there.1
