use Rattle.std.proofs.Common.{◌≡◌, take}
use Rattle.std.specs.List.{flat_map}
use Rattle.zarrs_codec_array.specs.Extents.{dimensions_in, extents_view}
use Rattle.zarrs_codec_array.proofs.reshape.named_dimensions.Given as goal

abbrev pub invariant-loop-entry : goal.invariant-loop-entry
invariant-loop-entry l = l.made.items ≡ flat_map dimensions_in (extents_view (take l.entry-index l.entries))
