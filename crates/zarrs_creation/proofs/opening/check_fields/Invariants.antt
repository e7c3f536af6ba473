use Rattle.std.proofs.Common.{◌≡◌}
use Rattle.zarrs_metadata_v3.specs.View.{fields_view}
use Rattle.zarrs_creation.specs.Opening.{fields_understood}
use Rattle.zarrs_creation.proofs.opening.check_fields.Given as goal

-- the fields that are left decide
abbrev pub invariant-loop-name : goal.invariant-loop-name
invariant-loop-name l = fields_understood (fields_view l.fields.entries) ≡ fields_understood (fields_view l.name-iterator)
