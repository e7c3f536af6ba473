use Rattle.std.proofs.Common.{◌≡◌, ◌∙◌, ◌+◌, ◌-◌, ap, arith}
use Rattle.zarrs_codec_chain.proofs.OpenShards.{length-bytes_of}
use Rattle.zarrs_codec_chain.proofs.stored.Stored.read.Goals as goal

pub read-requires-clause-may_read : goal.read-requires-clause-may_read
read-requires-clause-may_read g c = λ place from below.
    let stored = c.args.self.now in
    let x = place - stored.window.offset in
    let at : place ≡ stored.window.offset + x = omega arith in
    ap (g.B.ByteSource.may_read stored.source.now) at ∙ c.requires x (omega (arith, length-bytes_of stored))
