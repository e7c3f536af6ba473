use Rattle.std.proofs.Common.{arith, sym}
use Rattle.zarrs_codec_chain.proofs.shard.lies_at.Goals as goal

pub returns-clause-lies : goal.returns-clause-lies
returns-clause-lies c = record {
  same_length = sym c.requires.dimensions;
  starts = λ k lt. c.loop-axis.invariant.starts k (omega (arith, c.requires.long));
  ends = λ k lt. c.loop-axis.invariant.ends k (omega (arith, c.requires.long));
}
