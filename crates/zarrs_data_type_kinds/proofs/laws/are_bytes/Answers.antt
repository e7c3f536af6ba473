use Rattle.std.proofs.Common.{arith}
use Rattle.zarrs_data_type_kinds.proofs.laws.are_bytes.Goals as goal

pub returns : goal.returns
returns c = λ i. let f = c.type_inv._bytes i in omega arith
