use Rattle.std.proofs.Common.{◌≡◌, drop}
use Rattle.zarrs_codec_array.specs.ArrayCodecs.{arrays_meaning}
use Rattle.zarrs_codec_array.specs.Gathered.{encoded_shape}
use Rattle.zarrs_codec_array.proofs.array.encoded_shape.Given as goal

abbrev pub invariant-loop-codec : goal.invariant-loop-codec
invariant-loop-codec l =
    encoded_shape (arrays_meaning (drop l.codec-index l.codecs)) l.current.items ≡ encoded_shape (arrays_meaning l.codecs) l.shape
