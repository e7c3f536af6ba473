use Rattle.std.proofs.Common.{rules, subst, sym}
use Rattle.zarrs_subset.specs.Regions.{Box}
use Rattle.zarrs_data_type_region.proofs.Kept.{keeps_itself}
use Rattle.zarrs.specs.Outcomes.{MayRetrieveRegion, RetrievesIntoOrRefuses}
use Rattle.zarrs.proofs.array.Array.retrieve_array_subset_into_opt.Goals as goal

pub returns-in_err-array_subset : goal.returns-in_err-array_subset
returns-in_err-array_subset g c =
    let kept = keeps_itself c.args.target.now in
    search (rules, kept)

pub retrieve_array_subset_into-requires : goal.retrieve_array_subset_into-requires
retrieve_array_subset_into-requires g c =
    subst (λ (b : Box). MayRetrieveRegion g.TStorage.ReadableStorageTraits.state b c.args.self.now) (sym c.in_ok-array_subset.ensures) c.requires

pub returns : goal.returns
returns g c =
    let read = c.retrieve_array_subset_into in
    let is = read.ensures in
    subst (λ (b : Box). RetrievesIntoOrRefuses g.TStorage.ReadableStorageTraits.state b c.args.self.now c.args.target.now read.new.target read.result) c.in_ok-array_subset.ensures
    (record { kept = is.kept; cells = is.cells; content = is.content; refused = is.refused; kept_bytes = is.kept_bytes; kept_masks = is.kept_masks })
