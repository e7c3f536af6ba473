use Rattle.std.proofs.Common.{◌∙◌, subst, sym}
use Rattle.zarrs_storage.specs.Memory.{open_state}
use Rattle.zarrs_engine_calls.specs.Laws.{IsCourseFromNothing, IsResized, KeepsOutside}
use Rattle.zarrs_engine_calls.specs.Layout.{Layout}
use Rattle.zarrs.specs.Arrays.{layout_of_array, state_of_array, storage_of_array}
use Rattle.tests_arrays.proofs.NewStores.{new_has_no_chunk}
use Rattle.tests_arrays.proofs.histories.cut_after_calls.Goals as goal

pub replay_from_nothing-requires : goal.replay_from_nothing-requires
replay_from_nothing-requires c =
    let array = c.in_ok-array.array in
    new_has_no_chunk (layout_of_array array) (storage_of_array array) (c.in_ok-array.ensures.storage ∙ c.new.ensures)

pub returns : goal.returns
returns c =
    let called = state_of_array open_state c.replay_from_nothing.new.array in
    let now = state_of_array open_state c.cut.new.array in
    let kept = c.cut.ensures.layout in (
      called,
      subst (λ (l : Layout). IsCourseFromNothing l called) (sym (kept ∙ c.replay_from_nothing.ensures.layout)) c.in_ok-replay_from_nothing.ensures.course,
      subst (λ (l : Layout). IsResized l c.args.shape.items called now) (sym kept) c.in_ok-cut.ensures.cut,
      subst (λ (l : Layout). KeepsOutside l c.args.shape.items called now) (sym kept) c.in_ok-cut.ensures.outside,
    )
