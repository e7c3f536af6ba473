use Rattle.std.proofs.Common.{◌≡◌, take, map}
use Rattle.serde_json.specs.View.{view}
use Rattle.zarrs_codec_array.specs.Extents.{extents_view}
use Rattle.zarrs_codec_array.specs.Metadata.{extent_data}
use Rattle.zarrs_codec_array.proofs.metadata.extents_value.Given as goal

-- the values so far
abbrev pub invariant-loop-entry : goal.invariant-loop-entry
invariant-loop-entry l = map view l.values.items ≡ map extent_data (extents_view (take l.entry-index l.entries))
