use Rattle.std.proofs.Common.{◌≡◌, ◌*◌, ◌∙◌, ap, arith, length, take, drop, ◌++◌}
use Rattle.std.proofs.Math.Nat.{mul-le-mul_right}
use Rattle.zarrs_subset.specs.Boxes.{position_count}
use Rattle.zarrs_subset.specs.Pieces.{piece_at}
use Rattle.zarrs_subset.specs.Regions.{box_of}
use Rattle.zarrs_subset.proofs.Inside.{count_inside}
use Rattle.zarrs_data_type_bytes.proofs.Parts.{put_whole, pieces-taken, taken-extracted, positive_size}
use Rattle.zarrs_data_type_bytes.proofs.boxes.extract_bytes.Goals as goal

pub unreachable-requires : goal.unreachable-requires
unreachable-requires c =
    let within = count_inside (box_of c.args.subset.now) (box_of c.args.held_box.now) c.args.subset.now.same_length c.args.held_box.now.same_length c.requires.inside in
    let more = positive_size (position_count (box_of c.args.held_box.now).shape) c.args.size c.requires.positive in
    omega (arith, c.in_default.ensures.refused, c.requires.held_len)

pub overflow_mul-count : goal.overflow_mul-count
overflow_mul-count c =
    let within = count_inside (box_of c.args.subset.now) (box_of c.args.held_box.now) c.args.subset.now.same_length c.args.held_box.now.same_length c.requires.inside in
    omega (arith, ap (λ n. n * c.args.size) c.in-Ok.ensures.ok, mul-le-mul_right c.args.size within, c.requires.held_len)

pub returns-clause-cells : goal.returns-clause-cells
returns-clause-cells c =
    let new = c.place_part.new.target in
    let old = c.in_ok-made.made.items in
    let held = box_of c.args.held_box.now in
    let part = box_of c.args.subset.now in
    let whole : take c.in_ok-made.made.len (new ++ drop (length new) old) ≡ new =
    put_whole c.in_ok-made.made.len old new c.in_ok-made.made.ok.0 (c.place_part.auto.target ∙ ap length c.deref_mut.ensures.value) in
    rw whole (taken-extracted held part (piece_at c.args.size c.args.bytes.now) (piece_at c.args.size c.deref_mut.result.now) (piece_at c.args.size new) c.args.held_box.now.same_length c.args.subset.now.same_length c.requires.inside
    (pieces-taken c.args.size part held c.args.bytes.now c.deref_mut.result.now new
    c.args.subset.now.same_length c.args.held_box.now.same_length c.place_part.ensures))
