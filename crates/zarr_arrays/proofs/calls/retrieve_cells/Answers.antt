use Rattle.zarrs_data_type.specs.ArrayData.{data_of}
use Rattle.zarrs_subset.specs.Regions.{box_of}
use Rattle.zarrs.specs.Arrays.{layout_of_array}
use Rattle.zarr_arrays.proofs.Asked.{cells_at, ok_holds, reads_at}
use Rattle.zarr_arrays.proofs.calls.retrieve_cells.Goals as goal

pub retrieve_array_subset-cells-requires : goal.retrieve_array_subset-cells-requires
retrieve_array_subset-cells-requires c = λ covered.
    reads_at (layout_of_array c.in_ok-array.array) (layout_of_array c.args.array.now) _ _ (box_of c.args.region.now) c.in_ok-array.ensures.layout c.in_ok-array.ensures.store
    c.requires

pub returns : goal.returns
returns c =
    let read = ok_holds _ c.retrieve_array_subset-cells.result c.in_ok-cells.field-0 c.in_ok-cells.was c.retrieve_array_subset-cells.ensures.cells in
    cells_at (layout_of_array c.in_ok-array.array) (layout_of_array c.args.array.now) _ _ (box_of c.args.region.now) read.0 (data_of c.in_ok-cells.field-0)
    c.in_ok-array.ensures.layout c.in_ok-array.ensures.store read.2 read.1.1
