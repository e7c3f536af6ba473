use Rattle.std.proofs.Common.{ap, refl}
use Rattle.zarrs_storage.specs.Memory.{open_state}
use Rattle.zarrs_codec.specs.Options.{stores_empty_chunks}
use Rattle.zarrs_engine_calls.specs.Patches.{writes_parts}
use Rattle.zarrs_engine_calls.proofs.OpenStores.{may_ask_calls}
use Rattle.zarrs.specs.Arrays.{layout_of_array, state_of_array, store_of_array}
use Rattle.tests_arrays.proofs.NewStores.{from_nothing, none_decodes}
use Rattle.tests_arrays.proofs.histories.replay_from_nothing.Goals as goal

pub replay-requires : goal.replay-requires
replay-requires c = may_ask_calls _ _ _ (λ key. refl) (λ key place. refl)

pub returns-clause-course : goal.returns-clause-course
returns-clause-course c =
    let old = c.args.array.now in
    let layout = layout_of_array old in
    let run = c.in_ok-replies.ensures.run.run (ap (λ b. writes_parts b layout (store_of_array open_state old)) c.default-options.ensures.1) in
    from_nothing layout (stores_empty_chunks c.default-options.result) c.args.calls.now c.in_ok-replies.replies.items (state_of_array open_state old) (state_of_array open_state c.replay.new.self) c.default-options.ensures.0 c.requires c.runs_are_courses.ensures.runs run

pub returns-clause-function : goal.returns-clause-function
returns-clause-function c =
    let old = c.args.array.now in
    c.in_ok-replies.ensures.run.one_function (none_decodes (layout_of_array old) old.engine.layout.lawful (store_of_array open_state old) c.requires)
