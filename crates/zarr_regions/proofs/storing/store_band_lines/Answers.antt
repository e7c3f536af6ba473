use Rattle.zarrs_data_type.specs.ArrayData.{data_of}
use Rattle.zarrs_subset.specs.Regions.{box_of}
use Rattle.zarrs.specs.Arrays.{layout_of_array}
use Rattle.zarr_regions.proofs.BandLemmas.{read_one}
use Rattle.zarr_regions.proofs.storing.store_band_lines.Goals as goal

pub returns-clause-stored : goal.returns-clause-stored
returns-clause-stored g c =
    let rows = c.args.rows.now in
    read_one (layout_of_array c.args.opened.now.array) rows.form rows.size rows.width (box_of c.args.band.now) c.in_ok-count.count c.args.column c.in_ok-after.after
    c.new-bytes.result.items c.read_cells.new.bytes.items (data_of c.new_flen.result) (g.R.Read.remaining c.args.input.now)
    (g.R.Read.remaining c.read_cells.new.input) c.args.opened.now.store c.store_cells.new.self.store c.args.band.now.same_length c.in_ok-count.ensures.ok
    c.new-bytes.ensures.items c.in_ok-after.ensures.column c.in_ok-after.ensures.cells c.new_flen.ensures c.in_ok-store_cells.ensures.stored
