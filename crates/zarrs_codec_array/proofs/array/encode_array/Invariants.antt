use Rattle.std.proofs.Common.{◌≡◌, ◌-◌, ◌<◌, take}
use Rattle.zarrs_data_type.specs.ArrayData.{data_of}
use Rattle.zarrs_data_type.specs.Kind.{kind}
use Rattle.zarrs_codec_array.specs.ArrayCodecs.{arrays_meaning}
use Rattle.zarrs_codec_array.specs.Gathered.{IsEncodedArray}
use Rattle.zarrs_codec_array.proofs.array.encode_array.Given as goal

abbrev pub invariant-loop-k : goal.invariant-loop-k
invariant-loop-k l =
    IsEncodedArray (arrays_meaning (take l.k l.codecs)) (kind l.data_type) l.shape (data_of l.bytes) l.current
    × (0 < l.k → l.before.items ≡ (arrays_meaning (take (l.k - 1) l.codecs)).shape l.shape)
