use Rattle.std.proofs.Common.{◌/◌, length, ap, sym, ◌∙◌}
use Rattle.zarrs_data_type_bytes.proofs.NumberCells.{length_numbers}
use Rattle.zarrs_data_type_bytes.proofs.numbers.Numbers.len.Goals as goal

pub returns : goal.returns
returns c = ap (λ n. n / 8) (c.len.ensures ∙ c.self.inside.bytes.ok.0) ∙ sym (length_numbers c.self.inside.bytes.items) ∙ ap length c.self.view_is
