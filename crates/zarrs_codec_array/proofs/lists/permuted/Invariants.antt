use Rattle.std.proofs.Common.{◌≡◌, take}
use Rattle.zarrs_codec_array.specs.Orders.{permuted}
use Rattle.zarrs_codec_array.proofs.lists.permuted.Given as goal

abbrev pub invariant-loop-axis : goal.invariant-loop-axis
invariant-loop-axis l = l.made.items ≡ permuted (take l.axis-index l.order) l.numbers
