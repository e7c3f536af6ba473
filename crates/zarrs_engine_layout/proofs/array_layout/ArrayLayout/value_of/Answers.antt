use Rattle.zarrs_subset.specs.Boxes.{position_count}
use Rattle.zarrs_data_type.specs.ArrayData.{data_of}
use Rattle.zarrs_data_type_bytes.proofs.Cells.{HasCells-IsSome}
use Rattle.zarrs_engine_layout.specs.Layouts.{layout_meaning}
use Rattle.zarrs_engine_layout.proofs.array_layout.ArrayLayout.value_of.Goals as goal

pub leaves_out-requires : goal.leaves_out-requires
leaves_out-requires g c =
    HasCells-IsSome (layout_meaning c.args.self.now).kind (data_of c.args.chunk_data.now) (position_count c.args.shape.now) c.requires
