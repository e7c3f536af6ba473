use Rattle.std.proofs.Common.{◌≡◌, map, drop}
use Rattle.zarrs_metadata_parts.specs.Members.{is_named}
use Rattle.zarrs_metadata_parts.proofs.members.is_one_of.Given as goal

-- the names so far are others
abbrev pub invariant-loop-name : goal.invariant-loop-name
invariant-loop-name l =
    is_named (map (λ name. name.now) (drop l.name-index l.names)) l.fn.key ≡ is_named (map (λ name. name.now) l.names) l.fn.key
