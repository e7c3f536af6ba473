use Rattle.std.proofs.Common.{◌≡◌, ◌++◌, drop, option_map}
use Rattle.serde_json.specs.View.{items_view}
use Rattle.zarrs_metadata_parts.specs.Lists.{all_of}
use Rattle.zarrs_codec_array.specs.Extents.{extents_view}
use Rattle.zarrs_codec_array.specs.Metadata.{extent_said}
use Rattle.zarrs_codec_array.proofs.metadata.extents_from.Given as goal

-- what is left says the rest
abbrev pub invariant-loop-item : goal.invariant-loop-item
invariant-loop-item l =
    all_of extent_said (items_view l.item-items) ≡ option_map (λ more. extents_view l.entries.items ++ more) (all_of extent_said (items_view (drop l.item-index l.item-items)))
