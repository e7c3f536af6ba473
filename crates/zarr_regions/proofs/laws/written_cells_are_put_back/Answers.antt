use Rattle.zarrs_directory.specs.Directory.{directory_of}
use Rattle.zarr_regions.proofs.LawLemmas.{bytes_back, lines_back, npy_back}
use Rattle.zarr_regions.proofs.laws.written_cells_are_put_back.Goals as goal

pub returns : goal.returns
returns c =
    let directory = directory_of c.args._source.now.store in
    let old = c.args._old.now.store in
    let new = c.args._new.now.store in
    record {
      bytes = bytes_back directory old new c.written_cells_are_read_back.ensures.raw;
      lines = lines_back directory old new c.written_cells_are_read_back.ensures.lines;
      npy = npy_back directory old new c.written_cells_are_read_back.ensures.raw;
    }
