use Rattle.zarrs_storage.specs.Memory.{open_state}
use Rattle.zarrs_engine.specs.Engine.{layout_of, state_of}
use Rattle.tests_calls.proofs.histories.bytes_tell_arrays_apart.Goals as goal

pub returns : goal.returns
returns c =
    c.courses_agree.ensures (layout_of c.args.one.now) c.layouts_are_lawful.ensures (state_of open_state c.args.one.now) (state_of open_state c.args.other.now)
    c.requires.course c.requires.other_course
