use Rattle.std.proofs.Common.{ap, arith, rules}
use Rattle.std.proofs.lemmas.Grind.{common_steps}
use Rattle.zarrs_directory.specs.Directory.{cache_state}
use Rattle.zarr_arrays.specs.Storing.{lent_to}
use Rattle.zarr_arrays.proofs.Stored.{upgraded_there}
use Rattle.zarr_arrays.proofs.calls.upgrade_beside.Goals as goal

pub returns : goal.returns
returns c =
    upgraded_there c.args.array.now c.in_ok-array.array c.in_ok-array.ensures.copied (cache_state (lent_to c.in_ok-array.array).now)
    (cache_state (lent_to c.upgrade_through.new.array).now) (cache_state c.args.cache.now) _ (ap (λ s. cache_state s.now) c.in_ok-array.ensures.lent)
    (first_of (cc, search rules, grind (arith, common_steps))) c.in_ok-upgrade_through.ensures.upgraded
