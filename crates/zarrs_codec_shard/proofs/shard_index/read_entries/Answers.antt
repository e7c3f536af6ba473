use Rattle.std.proofs.Common.{◌≡◌, ◌+◌, ◌*◌, [], ◌∷◌, length, length-append, refl, sym, ap, subst, ◌∙◌, arith}
use Rattle.std.specs.Prelude.{slice_range}
use Rattle.zarrs_codec_shard.proofs.ShardReading.{IsRead, read_more, read_none, read_none_at}
use Rattle.zarrs_codec_shard.proofs.shard_index.read_entries.Goals as goal

pub returns-in-None-clause-parts : goal.returns-in-None-clause-parts
returns-in-None-clause-parts c = λ shard.
    let i = c.loop-number.number in
    read_none_at c.args.count i c.args.start c.args.end shard c.args.index.now (slice_range c.args.index.now (i * 16) (i * 16 + 16))
    c.loop-number-test.true refl (c.in-None.ensures.part shard)

pub loop-number-init : goal.loop-number-init
loop-number-init c = record {
  read = subst (IsRead 0 c.args.start c.args.end c.args.index.now) (sym c.in_ok-ranges.ensures.items) (read_none c.args.start c.args.end c.args.index.now);
  count = ap length c.in_ok-ranges.ensures.items;
  room = c.in_ok-ranges.ensures.exact;
}

pub loop-number-preserved : goal.loop-number-preserved
loop-number-preserved c =
    let i = c.loop-number.number in
    record {
      read = subst (IsRead (i + 1) c.args.start c.args.end c.args.index.now) (sym c.push_reserved.ensures.items)
          (read_more i c.args.start c.args.end c.args.index.now (slice_range c.args.index.now (i * 16) (i * 16 + 16)) c.loop-number.ranges.items c.in-Some.range c.loop-number.invariant.read refl c.in-Some.ensures.part c.in-Some.ensures.within c.in-Some.ensures.entry);
      count = omega (arith, ap length c.push_reserved.ensures.items, length-append c.loop-number.ranges.items (c.in-Some.range ∷ []), c.loop-number.invariant.count);
      room = c.push_reserved.ensures.capacity ∙ c.loop-number.invariant.room;
    }

pub returns-clause-parts : goal.returns-clause-parts
returns-clause-parts c = λ shard.
    let done : c.loop-number.number ≡ c.args.count = omega arith in
    (subst (λ n. IsRead n c.args.start c.args.end c.args.index.now c.loop-number.ranges.items) done c.loop-number.invariant.read).each shard
