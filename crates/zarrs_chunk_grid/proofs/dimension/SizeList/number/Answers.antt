use Rattle.std.proofs.Common.{rules, nat_le, subst, sym, ◌∙◌, arith}
use Rattle.std.specs.List.Sorted.{IsNonDecreasingBy}
use Rattle.std.proofs.lemmas.List.Sorted.{IsPartitionedBy-leb, IsPartitionPoint-from_clause}
use Rattle.std.specs.Int.NonZero.{non_zero_u64_get}
use Rattle.std.proofs.lemmas.List.{length-map}
use Rattle.zarrs_metadata_parts.specs.Lists.{sizes_of}
use Rattle.zarrs_chunk_grid.specs.GridLaws.{sizes_some}
use Rattle.zarrs_chunk_grid.proofs.SizesLemmas.{ends_rise, found_covers, none_covers}
use Rattle.zarrs_chunk_grid.proofs.dimension.SizeList.number.Goals as goal

pub returns-then-number-len-clause-none : goal.returns-then-number-len-clause-none
returns-then-number-len-clause-none c =
    let list = c.args.self.now in
    let same = c.deref.ensures.value ∙ list.summed in
    let rise = subst (λ ends. IsNonDecreasingBy (λ end. end) ends) (sym same) (ends_rise (sizes_of list.sizes.items) (sizes_some list.sizes.items) list.fits) in
    let parted = IsPartitionedBy-leb (λ end. end) _ c.args.coordinate rise in
    let point = IsPartitionPoint-from_clause (λ end. nat_le end c.args.coordinate) _ _ c.partition_point-number.ensures.partitioned parted (λ a r f k. search rules) in
    none_covers (sizes_of list.sizes.items) _ _ c.args.coordinate same point.0 (omega (arith, length-map list.sizes.items non_zero_u64_get))

pub returns-clause-some : goal.returns-clause-some
returns-clause-some c =
    let list = c.args.self.now in
    let same = c.deref.ensures.value ∙ list.summed in
    let rise = subst (λ ends. IsNonDecreasingBy (λ end. end) ends) (sym same) (ends_rise (sizes_of list.sizes.items) (sizes_some list.sizes.items) list.fits) in
    let parted = IsPartitionedBy-leb (λ end. end) _ c.args.coordinate rise in
    let point = IsPartitionPoint-from_clause (λ end. nat_le end c.args.coordinate) _ _ c.partition_point-number.ensures.partitioned parted (λ a r f k. search rules) in
    found_covers (sizes_of list.sizes.items) _ _ c.args.coordinate same point.0 point.1 (omega (arith, length-map list.sizes.items non_zero_u64_get))
