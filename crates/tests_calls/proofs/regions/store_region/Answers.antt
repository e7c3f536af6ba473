use Rattle.std.proofs.Common.{ap}
use Rattle.zarrs_engine_calls.specs.Patches.{writes_parts}
use Rattle.zarrs_storage.specs.Memory.{open_state}
use Rattle.zarrs_engine.specs.Engine.{layout_of, store_of}
use Rattle.tests_calls.proofs.regions.store_region.Goals as goal

-- the options are the default ones, and the data is these bytes
pub returns : goal.returns
returns c =
    let engine = c.args.engine.now in
    rw c.from_flen-region_data.ensures at (rw c.default-options.ensures.0 at (c.store_array_subset.ensures.whole
    (ap (λ b. writes_parts b (layout_of engine) (store_of open_state engine)) c.default-options.ensures.1)))
