use Rattle.std.proofs.Common.{◌≡◌, length, take, map}
use Rattle.std.specs.Prelude.{vec_capacity}
use Rattle.serde_json.specs.View.{view}
use Rattle.zarrs_metadata_parts.specs.Lists.{number_data, sizes_of}
use Rattle.zarrs_metadata_parts.proofs.lists.sizes_value.Given as goal

-- the values so far
abbrev pub invariant-loop-size : goal.invariant-loop-size
invariant-loop-size l = record {
  written : map view l.values.items ≡ map number_data (sizes_of (take l.size-index l.sizes));
  long : length l.values.items ≡ l.size-index;
  room : vec_capacity l.values ≡ length l.sizes;
}
