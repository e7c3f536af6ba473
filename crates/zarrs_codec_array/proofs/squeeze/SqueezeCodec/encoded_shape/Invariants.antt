use Rattle.std.proofs.Common.{◌≡◌, take}
use Rattle.zarrs_codec_array.specs.Arrays.{squeeze_shape}
use Rattle.zarrs_codec_array.proofs.squeeze.SqueezeCodec.encoded_shape.Given as goal

abbrev pub invariant-loop-extent : goal.invariant-loop-extent
invariant-loop-extent l = l.made.items ≡ squeeze_shape (take l.extent-index l.shape)
