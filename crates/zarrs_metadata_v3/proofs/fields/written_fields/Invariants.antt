use Rattle.std.proofs.Common.{◌≡◌, List, ◌++◌}
use Rattle.serde_json.specs.View.{members_view}
use Rattle.zarrs_metadata_v3.specs.Fields.{fields_data}
use Rattle.zarrs_metadata_v3.specs.View.{fields_view}
use Rattle.zarrs_metadata_v3.proofs.FieldLemmas.{FieldEntry}
use Rattle.zarrs_metadata_v3.proofs.fields.written_fields.Given as goal

-- the members so far are those of the fields so far
abbrev pub invariant-loop-name : goal.invariant-loop-name
invariant-loop-name l =
    (done : List FieldEntry) × (l.fields.entries ≡ done ++ l.name-iterator) × (members_view l.members.entries ≡ fields_data (fields_view done))
