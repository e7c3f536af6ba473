use Rattle.std.proofs.Common.{ap, arith, rules}
use Rattle.std.proofs.lemmas.Grind.{common_steps}
use Rattle.zarrs_data_type.specs.ArrayData.{data_of}
use Rattle.zarrs_subset.specs.Regions.{box_of}
use Rattle.zarrs.specs.Arrays.{layout_of_array}
use Rattle.zarrs_directory.specs.Directory.{cache_state}
use Rattle.zarr_arrays.specs.Storing.{lent_to}
use Rattle.zarr_arrays.proofs.Asked.{parts_at}
use Rattle.zarr_arrays.proofs.Stored.{stored_there}
use Rattle.zarr_arrays.proofs.calls.store_beside.Goals as goal

pub store_through-requires : goal.store_through-requires
store_through-requires c =
    parts_at (layout_of_array c.in_ok-array.array) (layout_of_array c.args.array.now) _ _ (box_of c.args.region.now) c.in_ok-array.ensures.copied.layout
    (ap (λ s. cache_state s.now) c.in_ok-array.ensures.lent) c.requires

pub returns : goal.returns
returns c =
    stored_there (layout_of_array c.args.array.now) (layout_of_array c.in_ok-array.array) (box_of c.args.region.now) (data_of c.args.cells)
    (cache_state (lent_to c.in_ok-array.array).now) (cache_state (lent_to c.store_through.new.array).now) (cache_state c.args.cache.now) _
    c.in_ok-array.ensures.copied.layout (ap (λ s. cache_state s.now) c.in_ok-array.ensures.lent) (first_of (cc, search rules, grind (arith, common_steps)))
    c.in_ok-store_through.ensures.stored
