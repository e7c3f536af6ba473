use Rattle.std.proofs.lemmas.Result.{MatchResult-weaker}
use Rattle.zarrs_metadata_parts.proofs.MemberLemmas.{members_view-clone}
use Rattle.zarrs_metadata_parts.proofs.members.copied.Goals as goal

pub returns : goal.returns
returns c = MatchResult-weaker c.clone.result c.clone.ensures.cases (λ m h. members_view-clone c.args.members.now.entries m.entries h) (λ e h. tt)
