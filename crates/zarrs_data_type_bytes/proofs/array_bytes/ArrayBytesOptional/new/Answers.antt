use Rattle.std.proofs.Common.{sym, ◌∙◌, ap, nat_lt}
use Rattle.std.specs.Cow.{cow_slice_items}
use Rattle.std.specs.List.{list_all}
use Rattle.zarrs_data_type_bytes.proofs.Validity.{no_flags, tested_false}
use Rattle.zarrs_data_type_bytes.proofs.array_bytes.ArrayBytesOptional.new.Goals as goal

pub returns-then-not-are_flags-clause-accepted : goal.returns-then-not-are_flags-clause-accepted
returns-then-not-are_flags-clause-accepted c =
    tested_false (no_flags (cow_slice_items c.args.mask)
    (ap (list_all (λ byte. nat_lt byte 2)) (sym c.as_slice.ensures.value) ∙ sym c.are_flags.ensures ∙ c.if-not-are_flags.true))
