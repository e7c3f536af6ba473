use Rattle.std.proofs.Common.{◌<◌, ◌≤◌, ◌^◌, rules, All, length, map, option_map, sym, ap, subst, ◌∙◌}
use Rattle.std.specs.Prelude.{IfSome}
use Rattle.zarrs_codec_shard.specs.ShardIndex.{range_part, ranges_len, IsRangeWithin}
use Rattle.zarrs_codec_shard.proofs.Rewriting.{too_long}
use Rattle.zarrs_codec_shard.proofs.compact.compact_shard.Goals as goal

pub rewritten_len-requires-clause-within : goal.rewritten_len-requires-clause-within
rewritten_len-requires-clause-within c =
    let b = c.args.encoded.now in
    let within = subst (λ o. IfSome o (λ ranges. All (IsRangeWithin (length b)) ranges.items)) c.in-Some.is c.in_ok-ranges.ensures.within in
    (length b, subst (All (IsRangeWithin (length b))) (sym c.deref.ensures.value) within)

pub returns-in_default-rewritten_len-clause-refused : goal.returns-in_default-rewritten_len-clause-refused
returns-in_default-rewritten_len-clause-refused c =
    let b = c.args.encoded.now in
    let ranges = c.in-Some.ranges.items in
    let within = subst (λ o. IfSome o (λ ranges. All (IsRangeWithin (length b)) ranges.items)) c.in-Some.is c.in_ok-ranges.ensures.within in
    let read = c.in_ok-ranges.ensures.parts ∙ ap (option_map (λ ranges. map (range_part b) ranges.items)) c.in-Some.is in
    let small : length b < 2 ^ 64 = search rules in
    let large : 2 ^ 64 ≤ ranges_len ranges = subst (λ l. 2 ^ 64 ≤ ranges_len l) c.deref.ensures.value c.in_default-rewritten_len.ensures in
    too_long c.args.at_start c.args.count b ranges read within small large
