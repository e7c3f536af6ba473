use Rattle.std.proofs.Common.{◌≡◌, take, map}
use Rattle.serde_json.specs.View.{view}
use Rattle.zarrs_metadata_v3.specs.Document.{dimension_name_data}
use Rattle.zarrs_metadata_v3.specs.View.{name_view}
use Rattle.zarrs_metadata_v3.proofs.writing.names_value.Given as goal

abbrev pub invariant-loop-name : goal.invariant-loop-name
invariant-loop-name l = map view l.values.items ≡ map (λ n. dimension_name_data (name_view n)) (take l.name-index l.name-items)
