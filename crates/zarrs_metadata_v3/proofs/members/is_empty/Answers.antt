use Rattle.zarrs_metadata_parts.proofs.MemberLemmas.{empty_members}
use Rattle.zarrs_metadata_v3.proofs.members.is_empty.Goals as goal

pub returns : goal.returns
returns c = empty_members c.args.members.now.entries c.is_empty.result c.is_empty.ensures
