use Rattle.std.proofs.Common.{◌≡◌, ◌++◌, drop, option_map}
use Rattle.serde_json.specs.View.{items_view}
use Rattle.zarrs_metadata_parts.specs.Lists.{all_of, number_of}
use Rattle.zarrs_metadata_parts.proofs.lists.all_numbers.Given as goal

-- what is left says the rest
abbrev pub invariant-loop-item : goal.invariant-loop-item
invariant-loop-item l =
    all_of number_of (items_view l.item-items) ≡ option_map (λ more. l.numbers.items ++ more) (all_of number_of (items_view (drop l.item-index l.item-items)))
