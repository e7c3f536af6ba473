use Rattle.std.proofs.Common.{◌≡◌, ◌≤◌, ◌-◌, ◌*◌, true, false, length, take, drop, sym, ap, subst, ◌∙◌, arith}
use Rattle.std.specs.Prelude.{None, Some}
use Rattle.std.proofs.Math.Seq.{take-length}
use Rattle.std.proofs.lemmas.Bool.{OnTrue_at, OnTrue_from}
use Rattle.std.proofs.lemmas.List.{length-drop}
use Rattle.zarrs_codec_shard.specs.ShardIndex.{NamesPacked}
use Rattle.zarrs_codec_shard.specs.Shards.{compaction}
use Rattle.zarrs_codec_shard.proofs.Packed.{named_compact}
use Rattle.zarrs_codec_shard.proofs.compact.is_compact.Goals as goal

pub returns-then-at_start : goal.returns-then-at_start
returns-then-at_start c =
    let n = c.args.count in
    let b = c.args.encoded.now in
    let fits : n * 16 ≤ length b = omega (arith, c.if-count-encoded.false) in
    OnTrue_from c.are_packed.result (compaction c.args.at_start n b ≡ Some None)
    (λ is. subst (λ front. compaction front n b ≡ Some None) (sym c.if-at_start.true) (named_compact true n b fits (OnTrue_at is c.are_packed.ensures)))

pub returns : goal.returns
returns c =
    let n = c.args.count in
    let b = c.args.encoded.now in
    let end = length b - n * 16 in
    let fits : n * 16 ≤ length b = omega (arith, c.if-count-encoded.false) in
    let whole : take (length b - end) (drop end b) ≡ drop end b = ap (λ m. take m (drop end b)) (sym (length-drop end b)) ∙ take-length (drop end b) in
    OnTrue_from c.are_packed-2.result (compaction c.args.at_start n b ≡ Some None)
    (λ is. subst (λ front. compaction front n b ≡ Some None) (sym c.if-at_start.false)
    (named_compact false n b fits (subst (λ index. NamesPacked n 0 end index end) whole (OnTrue_at is c.are_packed-2.ensures))))
