use Rattle.zarr_regions.proofs.writing.write_npy.Goals as goal

pub returns : goal.returns
returns g c = record {
  between = g.W.Write.contents c.write_header.new.out;
  header = c.in_ok-write_header.ensures;
  cells = c.in_ok-write_bytes.ensures;
}
