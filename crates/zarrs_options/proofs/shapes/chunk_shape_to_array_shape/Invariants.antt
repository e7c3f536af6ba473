use Rattle.std.proofs.Common.{◌≡◌, take, map}
use Rattle.std.specs.Int.NonZero.{non_zero_u64_get}
use Rattle.zarrs_options.proofs.shapes.chunk_shape_to_array_shape.Given as goal

-- the extents so far
abbrev pub invariant-loop-size : goal.invariant-loop-size
invariant-loop-size l = l.shape.items ≡ map non_zero_u64_get (take l.size-index l.chunk_shape)
