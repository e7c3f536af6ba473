use Rattle.std.proofs.Common.{map, sym, ap, ◌∙◌}
use Rattle.zarrs_subset.specs.Regions.{box_of}
use Rattle.zarrs_subset.proofs.WalkLemmas.{positions-empty}
use Rattle.zarrs_data_type_bytes.specs.StringParts.{string_at}
use Rattle.zarrs_data_type_bytes.proofs.string_boxes.extract_strings.Goals as goal

pub returns-then-is_empty : goal.returns-then-is_empty
returns-then-is_empty c =
    let part = box_of c.args.subset.now in
    let f = string_at (box_of c.args.held_box.now) c.args.strings.now in
    let none = positions-empty part c.args.subset.now.same_length (c.is_empty.ensures.0 c.if-is_empty.true) in
    c.finish.ensures ∙ c.in_ok-new.ensures ∙ sym (ap (map f) none)
