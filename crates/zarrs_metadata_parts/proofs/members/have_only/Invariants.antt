use Rattle.std.proofs.Common.{◌≡◌, map}
use Rattle.serde_json.specs.View.{members_view}
use Rattle.zarrs_metadata_parts.specs.Members.{has_only}
use Rattle.zarrs_metadata_parts.proofs.members.have_only.Given as goal

-- the members so far have names of these
abbrev pub invariant-loop-key : goal.invariant-loop-key
invariant-loop-key l =
    has_only (map (λ name. name.now) l.fn.names) (members_view l.key-iterator) ≡ has_only (map (λ name. name.now) l.fn.names) (members_view l.initial.key-iterator)
