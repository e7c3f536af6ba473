use Rattle.std.proofs.Common.{rules, ◌≡◌, ◌+◌, ◌++◌, length, Some, ap, ◌∙◌}
use Rattle.zarrs_codec_shard.specs.PartialShards.{changed_bytes, stored_end}
use Rattle.zarrs_codec_shard.specs.Shards.{entry_bytes}
use Rattle.zarrs_codec_shard.proofs.Patching.{or_true, pushed}
use Rattle.zarrs_codec_shard.proofs.patch.ShardPatch.push_bytes.Goals as goal

pub returns-clause-pushed : goal.returns-clause-pushed
returns-clause-pushed c =
    let old = c.args.self.now in
    let bytes = c.args.bytes.now in
    pushed old _ (Some bytes) c.push_entry.ensures.base c.push_entry.ensures.index
    (c.in_ok-extend_from_slice.ensures.items ∙ ap (λ v. v.items ++ bytes) c.push_entry.ensures.encoded ∙ ap (λ l. l ++ bytes) c.try_reserve.ensures.items)
    (λ count stored parts changes made lt is.
    let len : c.len.result ≡ length old.encoded.items = search rules in
    let offset : old.base + c.len.result ≡ stored_end count stored + length (changed_bytes changes) =
    ap (λ n. old.base + n) len ∙ ap (λ b. b + length old.encoded.items) is.base_is ∙ ap (λ l. stored_end count stored + length l) is.encoded_is in
    c.in_ok-push_entry.ensures.entries ∙ ap (λ n. old.entries.items ++ entry_bytes n (length bytes)) offset)
    (or_true old.any)
