use Rattle.std.proofs.Common.{rules, arith, ◌+◌, ◌<◌, ◌^◌, ◌++◌, length, ap, ◌∙◌}
use Rattle.zarrs_codec_shard.proofs.Patching.{finished_none, finished_some}
use Rattle.zarrs_codec_shard.proofs.patch.ShardPatch.finish.Goals as goal

pub returns-then-not-any : goal.returns-then-not-any
returns-then-not-any c = λ count stored parts changes all made is.
    finished_none count stored parts changes c.args.self all made is c.if-not-any.true

pub returns : goal.returns
returns c = λ count stored parts changes all made is.
    let text = c.in_ok-text.text.items in
    let small : c.args.self.base + length text < 2 ^ 64 = first_of (omega arith, search rules) in
    finished_some count stored parts changes c.args.self all made is text c.if-not-any.false
    (c.in_ok-text.ensures ∙ ap (λ l. c.args.self.encoded.items ++ l) c.deref.ensures.value) small
