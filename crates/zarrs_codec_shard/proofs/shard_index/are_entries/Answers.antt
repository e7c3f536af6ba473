use Rattle.std.proofs.Common.{◌≡◌, ◌*◌, ◌+◌, ℕ, map, ap, refl, sym, subst, arith, true}
use Rattle.std.specs.Prelude.{is_some, slice_range}
use Rattle.zarrs_codec_shard.specs.Shards.{named_part}
use Rattle.zarrs_codec_shard.specs.Steps.{all_present}
use Rattle.zarrs_codec_shard.proofs.ShardReading.{named_more, read_none_at}
use Rattle.zarrs_subset.specs.Pieces.{pieces}
use Rattle.zarrs_codec_shard.proofs.shard_index.are_entries.Goals as goal

pub loop-number-init : goal.loop-number-init
loop-number-init c = λ shard. refl

pub loop-number-preserved : goal.loop-number-preserved
loop-number-preserved c = λ shard.
    named_more c.loop-number.number c.args.start c.args.end shard c.args.index.now _ (c.in-Some.ensures.part shard) refl (c.loop-number.invariant shard)

pub returns-in_default : goal.returns-in_default
returns-in_default c = λ shard.
    let i = c.loop-number.number in
    ap is_some
    (sym
    (read_none_at c.args.count i c.args.start c.args.end shard c.args.index.now (slice_range c.args.index.now (i * 16) (i * 16 + 16)) c.loop-number-test.true refl (c.in_default.ensures.part shard)))

pub returns : goal.returns
returns c = λ shard.
    let done : c.loop-number.number ≡ c.args.count = omega arith in
    subst (λ (n : ℕ). true ≡ is_some (all_present (map (named_part shard c.args.start c.args.end) (pieces 16 n c.args.index.now)))) done (sym (c.loop-number.invariant shard))
