use Rattle.zarrs_subset.specs.Regions.{box_of}
use Rattle.zarrs.specs.Arrays.{layout_of_array}
use Rattle.zarrs_directory.specs.Excerpts.{excerpts_state}
use Rattle.zarr_arrays.proofs.WantedLemmas.{more_read, part_read}
use Rattle.zarr_arrays.proofs.reading.read_excerpt.Goals as goal

pub returns-clause-read : goal.returns-clause-read
returns-clause-read c =
    part_read (layout_of_array c.args.array.now) (box_of c.args.region.now) c.args.indices.now (excerpts_state c.args.files.now) (excerpts_state c.read.new.self)
    c.in_ok-key.key c.in_ok-wanted.wanted c.in_ok-key.ensures.key c.in_ok-wanted.ensures c.in_ok-read.ensures.read

pub returns-clause-more : goal.returns-clause-more
returns-clause-more c =
    more_read (layout_of_array c.args.array.now) c.args.indices.now (excerpts_state c.args.files.now) (excerpts_state c.read.new.self) c.in_ok-key.key
    c.in_ok-wanted.wanted c.in_ok-key.ensures.key c.in_ok-read.ensures.read
