use Rattle.std.proofs.Common.{◌≡◌, ap, ◌∙◌, ◌++◌, length, rules}
use Rattle.zarrs_codec_shard.specs.Shards.{entry_bytes}
use Rattle.zarrs_codec_shard.proofs.ShardWriting.{writing_present}
use Rattle.zarrs_codec_shard.proofs.shard_index.ShardWriter.push.Goals as goal

pub returns-clause-pushed : goal.returns-clause-pushed
returns-clause-pushed c =
    let at : c.len-offset.result ≡ length c.args.self.now.encoded.items = search rules in
    writing_present c.args.self.now (record { at_start = c.push_entry.new.self.at_start; count = c.push_entry.new.self.count; encoded = c.extend_from_slice.new.self; entries = c.push_entry.new.self.entries }) c.args.part.now
    (c.push_entry.ensures.at_start ∙ c.make_room.ensures.at_start)
    (c.in_ok-push_entry.ensures.entries ∙ ap (λ v. v.items ++ entry_bytes c.len-offset.result (length c.args.part.now)) c.make_room.ensures.entries ∙ ap (λ o. c.args.self.now.entries.items ++ entry_bytes o (length c.args.part.now)) at)
    (c.in_ok-extend_from_slice.ensures.items ∙ ap (λ v. v.items ++ c.args.part.now) c.push_entry.ensures.encoded ∙ ap (λ l. l ++ c.args.part.now) (c.try_reserve.ensures.items ∙ c.make_room.ensures.encoded))
