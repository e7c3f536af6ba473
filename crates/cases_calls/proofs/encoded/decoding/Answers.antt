use Rattle.zarrs.specs.Arrays.{layout_of_array}
use Rattle.cases_calls.proofs.Decodes.{found_decodes}
use Rattle.cases_calls.proofs.encoded.decoding.Goals as goal

pub returns-in-Ok-Some-clause-decodes : goal.returns-in-Ok-Some-clause-decodes
returns-in-Ok-Some-clause-decodes c =
    found_decodes (layout_of_array c.in_ok-over.over) (layout_of_array c.args.array.now) c.args.indices.now (λ bytes. bytes.items) _ c.in-Ok-Some.bytes c.in_ok-over.ensures c.in-Ok-Some.field-0-is c.in-Ok-Some.ensures.decodes
