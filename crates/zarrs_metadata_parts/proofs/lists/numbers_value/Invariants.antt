use Rattle.std.proofs.Common.{◌≡◌, take, map}
use Rattle.serde_json.specs.View.{view}
use Rattle.zarrs_metadata_parts.specs.Lists.{number_data}
use Rattle.zarrs_metadata_parts.proofs.lists.numbers_value.Given as goal

-- the values so far
abbrev pub invariant-loop-number : goal.invariant-loop-number
invariant-loop-number l = map view l.values.items ≡ map number_data (take l.number-index l.numbers)
