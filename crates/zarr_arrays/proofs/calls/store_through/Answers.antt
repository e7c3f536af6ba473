use Rattle.std.proofs.Common.{refl}
use Rattle.zarrs_data_type.specs.ArrayData.{data_of}
use Rattle.zarrs_subset.specs.Regions.{box_of}
use Rattle.zarrs_codec.specs.Options.{encodes_partially, stores_empty_chunks}
use Rattle.zarrs.specs.Arrays.{layout_of_array}
use Rattle.zarr_arrays.specs.Storing.{lent_to}
use Rattle.zarr_arrays.proofs.Stored.{no_parts, ok_fact, same_loan, stores_over}
use Rattle.zarr_arrays.proofs.calls.store_through.Goals as goal

pub store_array_subset_opt-requires : goal.store_array_subset_opt-requires
store_array_subset_opt-requires c κs = (
  (refl, tt),
  λ covered index among part. record { key = (c.requires index among part).key; places = (c.requires index among part).places },
)

pub returns : goal.returns
returns c =
    let layout = layout_of_array c.args.array.now in
    let keep = stores_empty_chunks c.args.options.now in
    let region = box_of c.args.region.now in
    let old = lent_to c.args.array.now in
    let new = lent_to c.store_array_subset_opt.new.self in
    let whole = c.store_array_subset_opt.ensures.whole (no_parts layout (encodes_partially c.args.options.now) old) in
    let done = ok_fact _ c.store_array_subset_opt.result c.in_ok-store_array_subset_opt.field-0 c.in_ok-store_array_subset_opt.was whole.done in
    record {
      loan = same_loan layout keep region done.0 old new done.2.1;
      stored = stores_over layout keep region done.0 old new (data_of c.args.cells) done.1 c.args.region.now.same_length done.2.1;
    }
