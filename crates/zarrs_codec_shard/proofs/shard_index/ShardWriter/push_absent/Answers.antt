use Rattle.std.proofs.Common.{ap}
use Rattle.std.proofs.lemmas.Result.{IfOk-weaker, IfErr-weaker}
use Rattle.zarrs_codec_shard.proofs.ShardWriting.{writing_absent}
use Rattle.zarrs_codec_shard.proofs.shard_index.ShardWriter.push_absent.Goals as goal

pub returns-clause-pushed : goal.returns-clause-pushed
returns-clause-pushed c =
    IfOk-weaker c.push_entry.result _ _
    (λ done entries_are. writing_absent c.args.self.now c.push_entry.new.self c.push_entry.ensures.at_start entries_are (ap (λ v. v.items) c.push_entry.ensures.encoded))
    c.push_entry.ensures.entries

pub returns-clause-refused : goal.returns-clause-refused
returns-clause-refused c =
    IfErr-weaker c.push_entry.result _ _
    (λ e entries_are. record { place_is = c.push_entry.ensures.at_start; encoded_is = ap (λ v. v.items) c.push_entry.ensures.encoded; entries_are = entries_are })
    c.push_entry.ensures.refused
