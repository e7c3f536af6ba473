use Rattle.std.proofs.Common.{◌≡◌, ◌+◌, ◌<◌, ◌^◌, sum, take, map}
use Rattle.std.specs.List.{range_with_len}
use Rattle.zarrs_metadata_parts.specs.Lists.{sizes_of}
use Rattle.zarrs_chunk_grid.proofs.dimension.SizeList.new.Given as goal

abbrev pub invariant-loop-size : goal.invariant-loop-size
invariant-loop-size l = record {
  end_is : l.end ≡ sum (take l.size-index (sizes_of l.size-items));
  end_fits : l.end < 2 ^ 64;
  ends_are : l.ends.items ≡ map (λ i. sum (take (i + 1) (sizes_of l.size-items))) (range_with_len 0 l.size-index);
}
