use Rattle.std.proofs.Common.{◌∙◌}
use Rattle.serde_json.specs.View.{members_view}
use Rattle.zarrs_metadata_parts.proofs.ExtensionLaws.{parts_in_turn}
use Rattle.zarrs_metadata_parts.proofs.MemberLemmas.{empty_members}
use Rattle.zarrs_metadata_parts.proofs.extension.MetadataV3.from_members.Goals as goal

pub returns : goal.returns
returns c =
    c.from_parts.ensures
    ∙ rw (empty_members c.take_member-must_understand.new.members.entries c.is_empty.result c.is_empty.ensures, c.take_member-name.ensures.found, c.take_member-configuration.ensures.found, c.take_member-must_understand.ensures.found)
    (parts_in_turn (members_view c.args.members.entries) (members_view c.take_member-name.new.members.entries) (members_view c.take_member-configuration.new.members.entries) (members_view c.take_member-must_understand.new.members.entries)
    c.take_member-name.ensures.left c.take_member-configuration.ensures.left c.take_member-must_understand.ensures.left)
