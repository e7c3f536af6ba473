use Rattle.std.proofs.Common.{◌≡◌, ◌++◌, length, arith, ap}
use Rattle.zarrs_data_type_bytes.proofs.ByteStrings.{strings_push_at}
use Rattle.zarrs_data_type_bytes.proofs.variable.VariableLengthBuilder.push.Goals as goal

pub returns-clause-pushed : goal.returns-clause-pushed
returns-clause-pushed c =
    let end : c.len.result ≡ length (c.self.inside.bytes.items ++ c.args.string.now) =
    omega (arith, c.len.ensures, c.extend_from_slice.new.self.ok.0, ap length c.in_ok-extend_from_slice.ensures.items) in
    let made = strings_push_at c.self.inside.offsets.items c.self.inside.bytes.items c.args.string.now c.len.result c.self.invariant end in
    rw (c.push_reserved.ensures.items, c.in_ok-extend_from_slice.ensures.items, c.in_ok-reserve.ensures.items, ← c.self.view_is) made
