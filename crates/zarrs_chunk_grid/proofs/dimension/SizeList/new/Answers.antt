use Rattle.std.proofs.Common.{◌≡◌, ◌+◌, sum, take, arith}
use Rattle.zarrs_metadata_parts.specs.Lists.{sizes_of}
use Rattle.zarrs_chunk_grid.proofs.SizesLemmas.{size_more, past_sum}
use Rattle.zarrs_chunk_grid.proofs.Walks.{each_more}
use Rattle.zarrs_chunk_grid.proofs.dimension.SizeList.new.Goals as goal

pub loop-size-preserved : goal.loop-size-preserved
loop-size-preserved c =
    let sizes = c.deref-size-items.result.now in
    let so_far = c.loop-size.invariant in
    let more = size_more sizes c.loop-size.size-index c.size-item.result (omega arith) c.size-item.is in
    let next_is : c.in-Some.next ≡ sum (take (c.loop-size.size-index + 1) (sizes_of sizes)) = omega (arith, more, c.in-Some.ensures.1, c.get.ensures.value, so_far.end_is) in
    record {
      end_is = next_is;
      end_fits = omega (arith, c.in-Some.ensures.0, c.in-Some.ensures.1);
      ends_are = rw c.in_ok-push.ensures.items (each_more (λ i. sum (take (i + 1) (sizes_of sizes))) _ _ _ so_far.ends_are next_is);
    }

pub returns-in_default-clause-refused : goal.returns-in_default-clause-refused
returns-in_default-clause-refused c =
    rw c.deref-size-items.ensures.value at
    (past_sum c.deref-size-items.result.now c.loop-size.size-index c.loop-size.end c.size-item.result (omega arith)
    c.size-item.is c.loop-size.invariant.end_is (λ h. c.in_default.ensures (omega (arith, h, c.get.ensures.value))))
