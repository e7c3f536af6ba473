use Rattle.zarrs_codec_shard.proofs.Encoding.{next_part, no_part, too_many}
use Rattle.zarrs_codec_shard.proofs.laws.parts_follow_one_another.Goals as goal

pub returns-clause-next : goal.returns-clause-next
returns-clause-next c = λ m store_empty fill shape sub cells. next_part m store_empty fill shape sub cells

pub returns-clause-none : goal.returns-clause-none
returns-clause-none c = λ m store_empty fill shape sub cells. no_part m store_empty fill shape sub cells

pub returns-clause-too_many : goal.returns-clause-too_many
returns-clause-too_many c = λ m store_empty fill shape sub cells. too_many m store_empty fill shape sub cells
