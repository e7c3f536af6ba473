use Rattle.std.proofs.Common.{◌∙◌, subst, sym}
use Rattle.zarrs_storage.specs.Memory.{open_state}
use Rattle.zarrs_engine_calls.specs.Canon.{HasNoChunk}
use Rattle.zarrs_engine_calls.specs.Headline.{IsOneFunctionThrough}
use Rattle.zarrs_engine_calls.specs.Layout.{ArrayState, Layout}
use Rattle.zarrs.specs.Arrays.{layout_of_array, state_of_array, storage_of_array}
use Rattle.tests_arrays.proofs.NewStores.{new_has_no_chunk}
use Rattle.tests_arrays.proofs.histories.after_calls.Goals as goal

pub replay_from_nothing-requires : goal.replay_from_nothing-requires
replay_from_nothing-requires c =
    let array = c.in_ok-array.array in
    new_has_no_chunk (layout_of_array array) (storage_of_array array) (c.in_ok-array.ensures.storage ∙ c.new.ensures)

pub returns : goal.returns
returns c =
    let array = c.in_ok-array.array in
    let layout = layout_of_array array in
    let none = new_has_no_chunk layout (storage_of_array array) (c.in_ok-array.ensures.storage ∙ c.new.ensures) in
    subst (λ (l : Layout). (first : ArrayState) × HasNoChunk l first.store × IsOneFunctionThrough l c.args.calls.now c.in_ok-replies.replies.items first (state_of_array open_state c.replay_from_nothing.new.array))
    (sym c.in_ok-replies.ensures.layout) (state_of_array open_state array, none, c.in_ok-replies.ensures.function)
