use Rattle.std.proofs.Common.{◌≡◌, Some, ap, ◌∙◌}
use Rattle.serde_json.specs.View.{members_view}
use Rattle.serde_json.specs.Data.{object}
use Rattle.serde_json.proofs.Views.{view-Object}
use Rattle.zarrs_metadata_parts.specs.Members.{nonempty}
use Rattle.zarrs_metadata_parts.proofs.MemberLemmas.{members_view-clone, kept_members}
use Rattle.zarrs_metadata_parts.proofs.extension.written_configuration.Goals as goal

pub returns-in_ok-clone-in-Some : goal.returns-in_ok-clone-in-Some
returns-in_ok-clone-in-Some c =
    let same : members_view c.in_ok-clone-in-Some.field-0.entries ≡ members_view c.in-Some.members.now.entries =
    members_view-clone c.in-Some.members.now.entries c.in_ok-clone-in-Some.field-0.entries c.in_ok-clone-in-Some.ensures.cases in
    let some : Some (members_view c.in-Some.members.now.entries) ≡ nonempty (members_view c.in-Some.members.now.entries) =
    kept_members c.in-Some.members.now.entries c.is_empty.result c.is_empty.ensures c.if-not-is_empty.true in
    rw (c.in-Some.is, ← some) (ap Some (view-Object c.in_ok-clone-in-Some.field-0 ∙ ap object same))
