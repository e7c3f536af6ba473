use Rattle.std.proofs.Common.{List, ℕ, get_or, ◌<◌, subst}
use Rattle.zarrs_data_type_kinds.specs.Kind.{kind}
use Rattle.zarrs_data_type_kinds.proofs.FillWriting.{all_small, fill_back}
use Rattle.zarrs_data_type_kinds.proofs.laws.written_fill_value_is_read.Goals as goal

pub returns : goal.returns
returns c =
    fill_back (kind c.args._data_type.now) c.args._fill_value.now c.requires
    (all_small c.args._fill_value.now (λ i. subst (λ (bytes : List ℕ). get_or bytes i 0 < 256) c.as_bytes.ensures (c.are_bytes.ensures i)))
