use Rattle.std.proofs.Common.{◌≡◌, take, map}
use Rattle.serde_json.specs.View.{view}
use Rattle.zarrs_metadata_parts.specs.Extension.{extension_data, extension_view}
use Rattle.zarrs_metadata_parts.proofs.lists.extensions_value.Given as goal

-- the values so far
abbrev pub invariant-loop-extension : goal.invariant-loop-extension
invariant-loop-extension l = map view l.values.items ≡ map extension_data (map extension_view (take l.extension-index l.extensions))
