use Rattle.zarrs_data_type.specs.ArrayData.{data_of}
use Rattle.zarrs_subset.specs.Regions.{box_of}
use Rattle.zarrs.specs.Arrays.{layout_of_array}
use Rattle.zarrs_directory.specs.Directory.{directory_of}
use Rattle.zarr_regions.proofs.BandLemmas.{lines_one}
use Rattle.zarr_regions.proofs.writing.write_band_lines.Goals as goal

pub returns : goal.returns
returns g c =
    let rows = c.args.rows.now in
    lines_one (layout_of_array c.args.opened.now.array) (directory_of c.args.opened.now.store) (box_of c.args.band.now) rows.form rows.size rows.width
    c.args.column c.in_ok-after.after (data_of c.in_ok-cells.cells) c.in_ok-bytes.bytes.now (g.W.Write.contents c.args.out.now)
    (g.W.Write.contents c.write_cells.new.out) c.in_ok-bytes.ensures c.in_ok-cells.ensures c.in_ok-after.ensures.written
