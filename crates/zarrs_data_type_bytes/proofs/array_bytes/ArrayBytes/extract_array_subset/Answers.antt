use Rattle.std.proofs.lemmas.Result.{IfOk-weaker}
use Rattle.zarrs_data_type_kinds.specs.Kind.{kind}
use Rattle.zarrs_subset.specs.Boxes.{position_count}
use Rattle.zarrs_subset.specs.Regions.{box_of}
use Rattle.zarrs_data_type_bytes.specs.ArrayData.{data_of}
use Rattle.zarrs_data_type_bytes.proofs.Cells.{HasCells-parts}
use Rattle.zarrs_data_type_bytes.proofs.Parts.{extracts_cells}
use Rattle.zarrs_data_type_bytes.proofs.array_bytes.ArrayBytes.extract_array_subset.Goals as goal

pub extract-requires-clause-held : goal.extract-requires-clause-held
extract-requires-clause-held c = (HasCells-parts (kind c.args.data_type.now) (data_of c.args.self.now) (position_count (box_of c.args.held_box.now).shape) c.requires.held).0

pub returns : goal.returns
returns c =
    IfOk-weaker c.extract.result _ _
    (λ made extracted. extracts_cells c.args.data_type.now (box_of c.args.held_box.now) (box_of c.args.subset.now) (data_of c.args.self.now) (data_of made)
    c.args.held_box.now.same_length c.args.subset.now.same_length c.requires.inside c.requires.held extracted)
    c.extract.ensures
