use Rattle.std.proofs.Common.{◌≡◌, ◌++◌, drop, option_map}
use Rattle.serde_json.specs.View.{items_view}
use Rattle.zarrs_metadata_parts.specs.Lists.{all_of, sizes_of, size_said}
use Rattle.zarrs_metadata_parts.proofs.lists.sizes.Given as goal

-- what is left says the rest
abbrev pub invariant-loop-item : goal.invariant-loop-item
invariant-loop-item l =
    all_of size_said (items_view l.item-items) ≡ option_map (λ more. sizes_of l.sizes.items ++ more) (all_of size_said (items_view (drop l.item-index l.item-items)))
