use Rattle.zarr_regions.proofs.storing.store_cells.Goals as goal

pub returns : goal.returns
returns g c = record {
  left = g.R.Read.remaining c.store_region.new.input;
  stores = c.in_ok-store_region.ensures;
}
