use Rattle.std.proofs.Common.{suc, arith}
use Rattle.std.proofs.Math.Nat.{mul-le-mul_right, suc-mul}
use Rattle.zarrs_codec_shard.proofs.unmet.next_shared.Goals as goal

pub overflow_mul-first : goal.overflow_mul-first
overflow_mul-first c = omega (arith, suc-mul c.args.index c.args.len, mul-le-mul_right {m = suc c.args.index} {n = c.args.count} c.args.len (omega (arith, c.requires.index)), c.requires.fits)
