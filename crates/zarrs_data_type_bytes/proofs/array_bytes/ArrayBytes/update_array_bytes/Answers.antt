use Rattle.std.proofs.lemmas.Result.{IfOk-weaker}
use Rattle.zarrs_data_type_kinds.specs.Kind.{kind}
use Rattle.zarrs_subset.specs.Boxes.{position_count}
use Rattle.zarrs_subset.specs.Regions.{box_of}
use Rattle.zarrs_data_type_bytes.specs.ArrayData.{data_of}
use Rattle.zarrs_data_type_bytes.proofs.Cells.{HasCells-parts}
use Rattle.zarrs_data_type_bytes.proofs.Parts.{takes_cells}
use Rattle.zarrs_data_type_bytes.proofs.array_bytes.ArrayBytes.update_array_bytes.Goals as goal

pub put_part-requires-clause-held : goal.put_part-requires-clause-held
put_part-requires-clause-held c = (HasCells-parts (kind c.args.data_type.now) (data_of c.args.self) (position_count (box_of c.args.held_box.now).shape) c.requires.held).0

pub put_part-requires-clause-part : goal.put_part-requires-clause-part
put_part-requires-clause-part c = (HasCells-parts (kind c.args.data_type.now) (data_of c.args.part.now) (position_count (box_of c.args.part_box.now).shape) c.requires.part).0

pub returns : goal.returns
returns c =
    IfOk-weaker c.put_part.result _ _
    (λ made taken. takes_cells c.args.data_type.now (box_of c.args.held_box.now) (box_of c.args.part_box.now) (data_of c.args.part.now) (data_of c.args.self) (data_of made)
    c.args.held_box.now.same_length c.args.part_box.now.same_length c.requires.held c.requires.part taken)
    c.put_part.ensures
