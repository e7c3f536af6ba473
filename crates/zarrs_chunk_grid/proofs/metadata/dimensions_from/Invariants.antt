use Rattle.std.proofs.Common.{◌≡◌, ◌++◌, drop, map, option_map}
use Rattle.serde_json.specs.View.{items_view}
use Rattle.zarrs_metadata_parts.specs.Lists.{all_of}
use Rattle.zarrs_chunk_grid.specs.Metadata.{sizes_said}
use Rattle.zarrs_chunk_grid.specs.Configurations.{sizes_view}
use Rattle.zarrs_chunk_grid.proofs.metadata.dimensions_from.Given as goal

-- what is left says the rest
abbrev pub invariant-loop-item : goal.invariant-loop-item
invariant-loop-item l =
    all_of sizes_said (items_view l.item-items) ≡ option_map (λ more. map sizes_view l.dimensions.items ++ more) (all_of sizes_said (items_view (drop l.item-index l.item-items)))
