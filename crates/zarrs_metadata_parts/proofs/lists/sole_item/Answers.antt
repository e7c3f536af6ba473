use Rattle.std.proofs.Common.{arith}
use Rattle.zarrs_metadata_parts.proofs.ListLemmas.{sole_item-other}
use Rattle.zarrs_metadata_parts.proofs.lists.sole_item.Goals as goal

pub returns-else-len-eq1 : goal.returns-else-len-eq1
returns-else-len-eq1 c = sole_item-other c.args.items.now.items (λ one. omega (arith, c.if-len-eq1.false, c.len.ensures, c.args.items.now.ok.0))
