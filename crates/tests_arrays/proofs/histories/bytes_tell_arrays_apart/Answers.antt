use Rattle.zarrs_storage.specs.Memory.{open_state}
use Rattle.zarrs.specs.Arrays.{layout_of_array, state_of_array}
use Rattle.tests_arrays.proofs.histories.bytes_tell_arrays_apart.Goals as goal

pub returns : goal.returns
returns c =
    c.an_array_is_one_function.ensures.bytes (layout_of_array c.args.one.now) c.an_array_is_its_metadata.ensures.lawful (state_of_array open_state c.args.one.now) (state_of_array open_state c.args.other.now)
    c.requires.course c.requires.other_course
