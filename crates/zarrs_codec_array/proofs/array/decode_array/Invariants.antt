use Rattle.std.proofs.Common.{◌≤◌, length}
use Rattle.zarrs_data_type.specs.ArrayData.{data_of}
use Rattle.zarrs_data_type.specs.Kind.{kind}
use Rattle.zarrs_codec_array.proofs.Chained.{IsUndone}
use Rattle.zarrs_codec_array.proofs.array.decode_array.Given as goal

abbrev pub decreases-loop-k : goal.decreases-loop-k
decreases-loop-k l = l.k

abbrev pub invariant-loop-k : goal.invariant-loop-k
invariant-loop-k l = (l.k ≤ length l.codecs) × IsUndone l.codecs l.k l.shape (kind l.data_type) (data_of l.fn.bytes) (data_of l.current)
