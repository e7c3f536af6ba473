use Rattle.std.proofs.Common.{◌≡◌}
use Rattle.serde_json.specs.View.{members_view}
use Rattle.serde_json.specs.Written.{members_have_float}
use Rattle.zarrs_metadata_v3.proofs.reasons.float_reason.Given as goal

abbrev pub invariant-loop-name : goal.invariant-loop-name
invariant-loop-name l = members_have_float (members_view l.name-iterator) ≡ members_have_float (members_view l.initial.name-iterator)
