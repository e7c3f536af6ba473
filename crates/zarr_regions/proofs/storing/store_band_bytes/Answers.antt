use Rattle.zarrs_data_type.specs.ArrayData.{data_of}
use Rattle.zarrs_subset.specs.Regions.{box_of}
use Rattle.zarrs.specs.Arrays.{layout_of_array}
use Rattle.zarr_regions.proofs.BandLemmas.{stored_one}
use Rattle.zarr_regions.proofs.storing.store_band_bytes.Goals as goal

pub returns-clause-stored : goal.returns-clause-stored
returns-clause-stored g c =
    stored_one (layout_of_array c.args.opened.now.array) (box_of c.args.band.now) _ (data_of c.in_ok-cells.cells) (g.R.Read.remaining c.args.input.now)
    (g.R.Read.remaining c.read_raw.new.input) c.args.opened.now.store c.store_cells.new.self.store c.in_ok-cells.ensures c.in_ok-store_cells.ensures.stored
