use Rattle.std.proofs.Common.{◌≡◌, List, ◌++◌}
use Rattle.std.specs.Map.{keys_of}
use Rattle.serde_json.specs.View.{members_view}
use Rattle.serde_json.proofs.Views.{Entry}
use Rattle.zarrs_metadata_v3.specs.Fields.{fields_of}
use Rattle.zarrs_metadata_v3.specs.View.{fields_view}
use Rattle.zarrs_metadata_v3.proofs.fields.read_fields.Given as goal

-- the fields so far are those of the members so far, under their names
abbrev pub invariant-loop-name : goal.invariant-loop-name
invariant-loop-name l =
    (done : List Entry) × (l.fn.members.entries ≡ done ++ l.name-iterator) × (keys_of l.fields.entries ≡ keys_of done) × (fields_view l.fields.entries ≡ fields_of (members_view done))
