use Rattle.std.proofs.Common.{refl}
use Rattle.std.proofs.lemmas.Result.{on_ok_weaker}
use Rattle.zarrs.specs.Arrays.{layout_of_array, metadata_of_array, metadata_options_of_array, meaning_of_array, path_of_array, store_of_array}
use Rattle.zarrs.proofs.Counts.{upgrading}
use Rattle.zarrs.proofs.Layouts.{parts_are}
use Rattle.zarrs.proofs.Upgrade.{upgrade_calls_leave, upgrade_calls_open}
use Rattle.zarrs.proofs.Upgraded.{upgraded_or_not}
use Rattle.zarrs.proofs.array.Array.upgrade_metadata.Goals as goal

pub returns-clause-count : goal.returns-clause-count
returns-clause-count g c =
    let state = g.TStorage.ReadableStorageTraits.state in
    let array = c.args.self.now in
    on_ok_weaker c.upgrade.result (upgrading (metadata_options_of_array array) (path_of_array array) (metadata_of_array array) (store_of_array state array) (store_of_array state c.upgrade.new.self)) c.upgrade.ensures.done

pub returns-clause-opens : goal.returns-clause-opens
returns-clause-opens g c =
    let state = g.TStorage.ReadableStorageTraits.state in
    let array = c.args.self.now in
    let o = metadata_options_of_array array in
    let path = path_of_array array in
    let m = metadata_of_array array in
    let old = store_of_array state array in
    let new = store_of_array state c.upgrade.new.self in
    let called = upgraded_or_not c.upgrade.result o path m old new c.upgrade.ensures.done c.upgrade.ensures.refused in
    upgrade_calls_open o path m (meaning_of_array array) called.0 old new (parts_are array) called.1

pub returns-clause-content : goal.returns-clause-content
returns-clause-content g c =
    let state = g.TStorage.ReadableStorageTraits.state in
    let array = c.args.self.now in
    let o = metadata_options_of_array array in
    let path = path_of_array array in
    let m = metadata_of_array array in
    let old = store_of_array state array in
    let new = store_of_array state c.upgrade.new.self in
    let called = upgraded_or_not c.upgrade.result o path m old new c.upgrade.ensures.done c.upgrade.ensures.refused in
    upgrade_calls_leave (layout_of_array array) path array.engine.layout.lawful refl o m called.0 old new called.1
