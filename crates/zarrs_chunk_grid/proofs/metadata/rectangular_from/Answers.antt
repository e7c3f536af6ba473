use Rattle.std.proofs.Common.{◌≡◌, List, map, Option, Some, option_map, sym, ap}
use Rattle.serde_json.specs.View.{view}
use Rattle.zarrs_metadata_parts.specs.Lists.{list_of}
use Rattle.zarrs_chunk_grid.specs.Configurations.{DimensionSizes, rectangular, sizes_view}
use Rattle.zarrs_chunk_grid.specs.Metadata.{sizes_said}
use Rattle.zarrs_chunk_grid.proofs.ConfigurationLemmas.{said_taken, said_refused}
use Rattle.zarrs_chunk_grid.proofs.metadata.rectangular_from.Goals as goal

pub returns-in-Ok : goal.returns-in-Ok
returns-in-Ok c =
    let said : option_map rectangular (list_of sizes_said (view c.args.chunk_shape.now)) ≡ Some (rectangular (map sizes_view c.in-Some.dimensions.items)) =
    ap (λ (o : Option (List DimensionSizes)). option_map rectangular o) (sym (rw c.in-Some.is at c.in_ok-dimensions.ensures)) in
    (rw c.in-Ok.ensures.configuration (said_taken _ c.args.array_shape.items (rectangular (map sizes_view c.in-Some.dimensions.items)) said c.in-Ok.ensures.taken), c.in-Ok.ensures.shape)

pub returns-in-Err : goal.returns-in-Err
returns-in-Err c =
    let said : option_map rectangular (list_of sizes_said (view c.args.chunk_shape.now)) ≡ Some (rectangular (map sizes_view c.in-Some.dimensions.items)) =
    ap (λ (o : Option (List DimensionSizes)). option_map rectangular o) (sym (rw c.in-Some.is at c.in_ok-dimensions.ensures)) in
    said_refused _ c.args.array_shape.items (rectangular (map sizes_view c.in-Some.dimensions.items)) c.in-Err.error c.refusal.result
    said c.in-Err.ensures.refused c.refusal.ensures
