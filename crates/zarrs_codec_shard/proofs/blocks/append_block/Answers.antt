use Rattle.std.proofs.Common.{arith, ◌≡◌, ◌+◌, ◌-◌, ◌*◌, List, ℕ, ap, ◌∙◌, length, take, drop, replicate, ◌++◌}
use Rattle.std.proofs.lemmas.List.{length-replicate}
use Rattle.std.proofs.Math.Nat.{mul-le-mul_right}
use Rattle.zarrs_subset.specs.Boxes.{position_count}
use Rattle.zarrs_subset.specs.Pieces.{piece_at}
use Rattle.zarrs_subset.specs.Regions.{box_of}
use Rattle.zarrs_subset.proofs.Inside.{count_inside}
use Rattle.zarrs_data_type_bytes.proofs.Parts.{pieces-taken, taken-extracted, positive_size}
use Rattle.zarrs_codec_shard.proofs.PushedCells.{made_longer, behind_is, written_behind}
use Rattle.zarrs_codec_shard.proofs.blocks.append_block.Goals as goal

pub unreachable-requires : goal.unreachable-requires
unreachable-requires c =
    let within = count_inside (box_of c.args.subset.now) (box_of c.args.held_box.now) c.args.subset.now.same_length c.args.held_box.now.same_length c.requires.inside in
    let more = positive_size (position_count (box_of c.args.held_box.now).shape) c.args.size c.requires.positive in
    omega (arith, c.in_default.ensures.refused, c.requires.held_len)

pub overflow_mul-len : goal.overflow_mul-len
overflow_mul-len c =
    let within = count_inside (box_of c.args.subset.now) (box_of c.args.held_box.now) c.args.subset.now.same_length c.args.held_box.now.same_length c.requires.inside in
    omega (arith, ap (λ n. n * c.args.size) c.in-Ok.ensures.ok, mul-le-mul_right c.args.size within, c.requires.held_len)

pub returns-clause-added : goal.returns-clause-added
returns-clause-added c =
    let size = c.args.size in
    let held = box_of c.args.held_box.now in
    let part = box_of c.args.subset.now in
    let bytes = c.args.bytes.now in
    let old = c.args.made.now.items in
    let whole = c.deref_mut.result.now in
    let put = c.place_part.new.target in
    let kept : c.try_reserve.new.self.items ≡ old = c.try_reserve.ensures.items in
    let at : length old ≡ c.len-start.result = omega (arith, ap length kept, c.try_reserve.new.self.ok.0, c.len-start.ensures) in
    let end = c.len-start.result + c.in-Ok.count * size in
    let more : List ℕ = replicate (end - c.try_reserve.new.self.len) 0 in
    let longer = made_longer end c.try_reserve.new.self.items old more c.resize.new.self.items c.in_ok-resize.ensures.items kept (omega (arith, at)) in
    let is : whole ≡ old ++ more = c.deref_mut.ensures.value ∙ longer in
    let behind = behind_is old more whole c.len-start.result is at in
    let len : length put ≡ length more = c.place_part.auto.target ∙ ap length behind in
    record {
      added = put;
      new_is = written_behind old more whole c.len-start.result is at c.resize.new.self.len c.resize.new.self.items put c.resize.new.self.ok.0 c.deref_mut.ensures.value len;
      count = omega (arith, len, length-replicate {A = ℕ} (end - c.try_reserve.new.self.len) 0, c.len-start.ensures, ap (λ n. n * size) c.in-Ok.ensures.ok);
      cells_are = taken-extracted held part (piece_at size bytes) (piece_at size (take (length whole - c.len-start.result) (drop c.len-start.result whole))) (piece_at size put) c.args.held_box.now.same_length c.args.subset.now.same_length c.requires.inside
          (pieces-taken size part held bytes (take (length whole - c.len-start.result) (drop c.len-start.result whole)) put c.args.subset.now.same_length c.args.held_box.now.same_length c.place_part.ensures);
    }
