use Rattle.zarr_regions.proofs.storing.store_npy.Goals as goal

pub returns : goal.returns
returns g c = record {
  between = g.R.Read.remaining c.read_header.new.input;
  header = c.in_ok-read_header.ensures;
  cells = c.in_ok-store_bytes.ensures;
}
