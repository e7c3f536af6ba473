use Rattle.std.proofs.Common.{length}
use Rattle.zarrs_data_type_bytes.proofs.string_boxes.+box_len.Given as goal

abbrev pub decreases-box_len : goal.decreases-box_len
decreases-box_len l = length l.part.shape.now
