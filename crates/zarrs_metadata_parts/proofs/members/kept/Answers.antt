use Rattle.zarrs_metadata_parts.proofs.MemberLemmas.{kept_members}
use Rattle.zarrs_metadata_parts.proofs.members.kept.Goals as goal

pub returns-else-is_empty : goal.returns-else-is_empty
returns-else-is_empty c = kept_members c.args.members.entries c.is_empty.result c.is_empty.ensures c.if-is_empty.false
