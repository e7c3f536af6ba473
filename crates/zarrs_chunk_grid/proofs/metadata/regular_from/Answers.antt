use Rattle.std.proofs.Common.{◌≡◌, ℕ, List, Option, Some, option_map, sym, ap}
use Rattle.serde_json.specs.View.{view}
use Rattle.zarrs_metadata_parts.specs.Lists.{list_of, sizes_of, size_said}
use Rattle.zarrs_chunk_grid.specs.Configurations.{regular}
use Rattle.zarrs_chunk_grid.proofs.ConfigurationLemmas.{said_taken, said_refused}
use Rattle.zarrs_chunk_grid.proofs.metadata.regular_from.Goals as goal

pub returns-in-Ok : goal.returns-in-Ok
returns-in-Ok c =
    let said : option_map regular (list_of size_said (view c.args.chunk_shape.now)) ≡ Some (regular (sizes_of c.in-Some.sizes.items)) =
    ap (λ (o : Option (List ℕ)). option_map regular o) (sym (rw c.in-Some.is at c.in_ok-sizes.ensures)) in
    (rw c.in-Ok.ensures.configuration (said_taken _ c.args.array_shape.items (regular (sizes_of c.in-Some.sizes.items)) said c.in-Ok.ensures.taken), c.in-Ok.ensures.shape)

pub returns-in-Err : goal.returns-in-Err
returns-in-Err c =
    let said : option_map regular (list_of size_said (view c.args.chunk_shape.now)) ≡ Some (regular (sizes_of c.in-Some.sizes.items)) =
    ap (λ (o : Option (List ℕ)). option_map regular o) (sym (rw c.in-Some.is at c.in_ok-sizes.ensures)) in
    said_refused _ c.args.array_shape.items (regular (sizes_of c.in-Some.sizes.items)) c.in-Err.error c.refusal.result
    said c.in-Err.ensures.refused c.refusal.ensures
