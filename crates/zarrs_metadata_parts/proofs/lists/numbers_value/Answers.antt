use Rattle.std.proofs.Common.{ap, ◌∙◌}
use Rattle.zarrs_metadata_parts.specs.Lists.{number_data, numbers_of}
use Rattle.zarrs_metadata_parts.proofs.ListLemmas.{list_written, numbers_of-numbers_data}
use Rattle.zarrs_metadata_parts.proofs.lists.numbers_value.Goals as goal

pub returns-clause-written : goal.returns-clause-written
returns-clause-written c =
    list_written number_data (λ l. l) c.args.numbers.now c.loop-number.number-index c.loop-number.values c.loop-number-test.false c.loop-number.invariant

pub returns-clause-reads_back : goal.returns-clause-reads_back
returns-clause-reads_back c =
    ap numbers_of (list_written number_data (λ l. l) c.args.numbers.now c.loop-number.number-index c.loop-number.values c.loop-number-test.false c.loop-number.invariant)
    ∙ numbers_of-numbers_data c.args.numbers.now
