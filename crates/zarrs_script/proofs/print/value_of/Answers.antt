use Rattle.std.proofs.Common.{◌+◌, ◌-◌, ◌*◌, ℕ, length, ap, ◌∙◌, arith}
use Rattle.zarrs_script.proofs.Bytes.{byte_room, one_value, one_power}
use Rattle.zarrs_script.proofs.print.value_of.Goals as goal

pub overflow_mul-value : goal.overflow_mul-value
overflow_mul-value c =
    let lt = c.loop-count-test.true in
    let short = c.requires in
    let room = byte_room c.loop-count.value c.loop-count.count c.loop-count.invariant.small (omega arith) in
    omega arith

pub overflow_add-value : goal.overflow_add-value
overflow_add-value c =
    let lt = c.loop-count-test.true in
    let short = c.requires in
    let room = byte_room c.loop-count.value c.loop-count.count c.loop-count.invariant.small (omega arith) in
    let is = c.from.ensures in
    let fits = c.type_inv.bytes (length c.args.bytes.now - 1 - c.loop-count.count) in
    omega arith

pub loop-count-preserved : goal.loop-count-preserved
loop-count-preserved c =
    let l = c.loop-count in
    let fits = c.type_inv.bytes (length c.args.bytes.now - 1 - l.count) in
    let is = c.from.ensures in
    let small = l.invariant.small in
    let more = one_power l.count in
    record {
      value = ap (λ (b : ℕ). l.value * 256 + b) is ∙ one_value c.args.bytes.now l.count l.value c.loop-count-test.true l.invariant.value;
      small = omega arith;
    }
