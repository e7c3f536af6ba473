use Rattle.std.proofs.Common.{◌≡◌, ◌∙◌, ap, length, take, drop, ◌++◌}
use Rattle.zarrs_subset.specs.Regions.{box_of}
use Rattle.zarrs_data_type_bytes.proofs.Parts.{put_whole, pieces-taken}
use Rattle.zarrs_data_type_bytes.proofs.boxes.bytes_with_part.Goals as goal

pub returns-clause-cells : goal.returns-clause-cells
returns-clause-cells c =
    let new = c.place_part.new.target in
    let old = c.args.bytes.items in
    let whole : take c.args.bytes.len (new ++ drop (length new) old) ≡ new = put_whole c.args.bytes.len old new c.args.bytes.ok.0 (c.place_part.auto.target ∙ ap length c.deref_mut.ensures.value) in
    rw whole (pieces-taken c.args.size (box_of c.args.held_box.now) (box_of c.args.part_box.now) c.args.part.now old new
    c.args.held_box.now.same_length c.args.part_box.now.same_length (rw c.deref_mut.ensures.value at c.place_part.ensures))
