use Rattle.std.proofs.Common.{◌≡◌, ◌+◌, ap, arith}
use Rattle.zarrs_codec_chain.proofs.OpenShards.{length-bytes_of, sub_window}
use Rattle.zarrs_codec_chain.proofs.stored.Stored.part.Goals as goal

pub overflow_add-result : goal.overflow_add-result
overflow_add-result g c = omega (arith, length-bytes_of c.args.self.now, c.args.self.now.within, c.args.self.now.counted, c.requires.order, c.requires.within)

pub returns-clause-bytes : goal.returns-clause-bytes
returns-clause-bytes g c =
    let stored = c.args.self.now in
    sub_window stored.window.offset stored.window.len c.args.start c.args.end (g.B.ByteSource.bytes stored.source.now) c.requires.order (omega (arith, length-bytes_of stored, c.requires.within))

pub returns-clause-may_read : goal.returns-clause-may_read
returns-clause-may_read g c = λ place.
    let offset = c.args.self.now.window.offset in
    let at : offset + c.args.start + place ≡ offset + (c.args.start + place) = omega arith in
    ap (g.B.ByteSource.may_read c.args.self.now.source.now) at
