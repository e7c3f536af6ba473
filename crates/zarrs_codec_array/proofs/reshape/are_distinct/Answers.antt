use Rattle.std.proofs.Common.{arith}
use Rattle.std.proofs.lemmas.Grind.{common_steps}
use Rattle.std.proofs.lemmas.List.Folds.{list_any-append}
use Rattle.zarrs_codec_array.proofs.Reshaping.{repeated, distinct_more}
use Rattle.zarrs_codec_array.proofs.reshape.are_distinct.Goals as goal

pub returns-then-not-branch : goal.returns-then-not-branch
returns-then-not-branch c =
    repeated c.args.numbers.now c.loop-number.number-index _ _ c.loop-number-test.true c.in_ok-insert.ensures.added (c.loop-number.invariant.held _) c.if-not-branch.true

pub loop-number-preserved : goal.loop-number-preserved
loop-number-preserved c = record {
  distinct = distinct_more c.args.numbers.now c.loop-number.number-index _ _ c.loop-number-test.true c.in_ok-insert.ensures.added (c.loop-number.invariant.held _) c.if-not-branch.false c.loop-number.invariant.distinct;
  held = λ q. grind (arith, common_steps, list_any-append, c.loop-number.invariant.held q);
}
