use Rattle.std.proofs.Common.{◌≡◌, ◌++◌, map, length, option_map}
use Rattle.std.specs.Vec.Iter.{into_iter_items, into_iter_len}
use Rattle.serde_json.specs.View.{items_view}
use Rattle.zarrs_metadata_parts.specs.Extension.{extension_of, extension_view}
use Rattle.zarrs_metadata_parts.specs.Lists.{all_of}
use Rattle.zarrs_metadata_parts.proofs.lists.all_extensions.Given as goal

-- what is left says the rest
abbrev pub invariant-loop-item : goal.invariant-loop-item
invariant-loop-item l =
    (all_of extension_of (items_view (into_iter_items l.initial.item-iterator)) ≡ option_map (λ more. map extension_view l.extensions.items ++ more) (all_of extension_of (items_view (into_iter_items l.item-iterator))))
    × (into_iter_len l.item-iterator ≡ length (into_iter_items l.item-iterator))
