use Rattle.zarrs_data_type.specs.ArrayData.{data_of}
use Rattle.zarrs_codec_array.proofs.Depth.{depth}
use Rattle.zarrs_codec_array.proofs.transpose.+rearranged.Given as goal

abbrev pub decreases-rearranged : goal.decreases-rearranged
decreases-rearranged l = depth (data_of l.bytes.now)
