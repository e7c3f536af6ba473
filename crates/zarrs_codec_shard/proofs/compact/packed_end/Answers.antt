use Rattle.std.proofs.Common.{arith, Some, ap, subst, ◌∙◌}
use Rattle.zarrs_codec_shard.specs.ShardIndex.{range_entry, range_part, IsRangeWithin}
use Rattle.zarrs_codec_shard.proofs.Packed.{named_absent, named_next}
use Rattle.zarrs_codec_shard.proofs.compact.packed_end.Goals as goal

pub returns-in-None : goal.returns-in-None
returns-in-None c = λ number index same is.
    named_absent number c.args.start c.args.end index c.args.entry.now c.args.last is same
    (λ shard. c.in_ok-entry_range.ensures.part shard ∙ ap (λ range. Some (range_part shard range)) c.in-None.is)
    (c.in_ok-entry_range.ensures.entry ∙ ap range_entry c.in-None.is)

pub returns-in-Some : goal.returns-in-Some
returns-in-Some c = λ number index same is.
    named_next number c.args.start c.args.end index c.args.entry.now c.args.last is same c.in-Some.range
    (λ shard. c.in_ok-entry_range.ensures.part shard ∙ ap (λ range. Some (range_part shard range)) c.in-Some.is)
    (subst (IsRangeWithin c.args.end) c.in-Some.is c.in_ok-entry_range.ensures.within)
    (c.in_ok-entry_range.ensures.entry ∙ ap range_entry c.in-Some.is)
    (omega (arith, c.if-range-last.true))
