use Rattle.zarrs_data_type.specs.ArrayData.{data_of}
use Rattle.zarrs_subset.specs.Regions.{box_of}
use Rattle.zarrs.specs.Arrays.{layout_of_array}
use Rattle.zarrs_directory.specs.Directory.{directory_of}
use Rattle.zarr_regions.proofs.BandLemmas.{bytes_one}
use Rattle.zarr_regions.proofs.writing.write_band_bytes.Goals as goal

pub returns : goal.returns
returns g c =
    bytes_one (layout_of_array c.args.opened.now.array) (directory_of c.args.opened.now.store) (box_of c.args.band.now) (data_of c.in_ok-cells.cells)
    (g.W.Write.contents c.args.out.now) (g.W.Write.contents c.write_raw.new.out) c.in_ok-cells.ensures c.in_ok-write_raw.ensures
