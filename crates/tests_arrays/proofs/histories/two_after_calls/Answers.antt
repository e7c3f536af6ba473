use Rattle.std.proofs.Common.{◌∙◌, subst, sym}
use Rattle.zarrs_storage.specs.Memory.{open_state}
use Rattle.zarrs_engine_calls.specs.Laws.{IsCourseFromNothing}
use Rattle.zarrs_engine_calls.specs.Layout.{Layout}
use Rattle.zarrs.specs.Arrays.{layout_of_array, state_of_array, storage_of_array}
use Rattle.tests_arrays.proofs.NewStores.{new_has_no_chunk}
use Rattle.tests_arrays.proofs.histories.two_after_calls.Goals as goal

pub replay_from_nothing-requires : goal.replay_from_nothing-requires
replay_from_nothing-requires c =
    let one = c.in_ok-one.one in
    new_has_no_chunk (layout_of_array one) (storage_of_array one) (c.in_ok-one.ensures.storage ∙ c.new.ensures)

pub replay_from_nothing-requires-2 : goal.replay_from_nothing-requires-2
replay_from_nothing-requires-2 c =
    let other = c.in_ok-other.other in
    new_has_no_chunk (layout_of_array other) (storage_of_array other) (c.in_ok-other.ensures.storage ∙ c.new-2.ensures)

pub bytes_tell_arrays_apart-requires : goal.bytes_tell_arrays_apart-requires
bytes_tell_arrays_apart-requires c =
    let one = c.replay_from_nothing.new.array in
    let other = c.replay_from_nothing-2.new.array in
    let first = c.replay_from_nothing.ensures.layout in
    let same = c.in_ok-other.ensures.copied.layout ∙ sym first in
    record {
      same_layout = c.replay_from_nothing-2.ensures.layout ∙ same;
      course = subst (λ (l : Layout). IsCourseFromNothing l (state_of_array open_state one)) (sym first) c.in_ok-replay_from_nothing.ensures.course;
      other_course = subst (λ (l : Layout). IsCourseFromNothing l (state_of_array open_state other)) same c.in_ok-replay_from_nothing-2.ensures.course;
    }
