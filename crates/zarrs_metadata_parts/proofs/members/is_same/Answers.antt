use Rattle.std.proofs.Common.{rules}
use Rattle.std.proofs.lemmas.Map.Text.{is_eq-slice_cmp}
use Rattle.zarrs_metadata_parts.proofs.members.is_same.Goals as goal

pub returns : goal.returns
returns c = search (rules, is_eq-slice_cmp)
