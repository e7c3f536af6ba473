use Rattle.zarrs_chunk_grid.proofs.Chunks.{box_is_there}
use Rattle.zarrs.specs.Arrays.{layout_of_array}
use Rattle.tests_arrays.proofs.encoded.put_back.Goals as goal

pub erase_chunk-requires : goal.erase_chunk-requires
erase_chunk-requires c = (box_is_there (layout_of_array c.args.array.now).grid c.args.chunk_indices.now c.requires.chunk).long
