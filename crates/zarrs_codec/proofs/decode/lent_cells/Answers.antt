use Rattle.zarrs_data_type.specs.CellTypes.{shape_of}
use Rattle.zarrs_subset.specs.Boxes.{position_count}
use Rattle.zarrs_codec.proofs.Counts.{count_fits, some_count}
use Rattle.zarrs_codec.proofs.decode.lent_cells.Goals as goal

pub unwrap-count-requires : goal.unwrap-count-requires
unwrap-count-requires c =
    let chunk = c.args.chunk.now in
    let n = position_count (shape_of chunk) in
    some_count c.element_count.result n c.element_count.ensures (count_fits chunk.cell_type.now.data_type n c.requires)
