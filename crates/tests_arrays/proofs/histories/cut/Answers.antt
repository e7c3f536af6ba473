use Rattle.std.proofs.Common.{refl}
use Rattle.zarrs_storage.specs.Memory.{open_state}
use Rattle.zarrs_codec.specs.Options.{stores_empty_chunks}
use Rattle.zarrs.specs.Arrays.{layout_of_array, state_of_array}
use Rattle.tests_arrays.proofs.NewStores.{is_resized, keeps_outside}
use Rattle.tests_arrays.proofs.histories.cut.Goals as goal

pub resize-requires : goal.resize-requires
resize-requires c = λ taken index cut keeps. record { key = λ long. refl; places = λ long value place there within. refl }

pub returns-clause-cut : goal.returns-clause-cut
returns-clause-cut c =
    let old = c.args.array.now in
    let done = c.in_ok-resize.ensures in
    is_resized (layout_of_array old) (stores_empty_chunks c.default-options.result) c.args.shape.items (state_of_array open_state old) (state_of_array open_state c.resize.new.self) done.shape done.done c.accepted_shape_changes.ensures

pub returns-clause-outside : goal.returns-clause-outside
returns-clause-outside c =
    let old = c.args.array.now in
    let done = c.in_ok-resize.ensures in
    keeps_outside (layout_of_array old) (stores_empty_chunks c.default-options.result) c.args.shape.items (state_of_array open_state old) (state_of_array open_state c.resize.new.self) done.shape done.done c.an_array_is_its_metadata.ensures.lawful c.shape_changes_keep_outside.ensures
