use Rattle.zarrs.specs.Arrays.{metadata_of_array}
use Rattle.zarrs.specs.Counts.{upgrade_writes}
use Rattle.zarr_arrays.specs.Storing.{lent_to}
use Rattle.zarr_arrays.proofs.Stored.{made_loan, ok_fact, upgrades_over}
use Rattle.zarr_arrays.proofs.calls.upgrade_through.Goals as goal

pub returns : goal.returns
returns c =
    let old = lent_to c.args.array.now in
    let new = lent_to c.upgrade_metadata.new.self in
    let result = c.upgrade_metadata.result in
    let field = c.in_ok-upgrade_metadata.field-0 in
    let is = c.in_ok-upgrade_metadata.was in
    record {
      loan = made_loan (upgrade_writes (metadata_of_array c.args.array.now)) old new (ok_fact _ result field is c.upgrade_metadata.ensures.count);
      upgraded = upgrades_over c.args.array.now old new (ok_fact _ result field is c.upgrade_metadata.ensures.upgrades.done) c.upgrade_metadata.ensures.content;
    }
