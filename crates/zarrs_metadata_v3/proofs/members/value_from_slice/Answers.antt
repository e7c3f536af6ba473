use Rattle.serde_json.specs.View.{view}
use Rattle.zarrs_metadata_v3.proofs.TextLaws.{said_value, nothing_said}
use Rattle.zarrs_metadata_v3.proofs.members.value_from_slice.Goals as goal

pub returns-in_default : goal.returns-in_default
returns-in_default c = record {
  read = tt;
  refused = nothing_said c.args.bytes.now (c.in-Err.ensures.err (λ memory. c.in_default.not-Memory (c.classify.ensures.memory.1 memory)));
}

pub returns-in-Ok-clause-read : goal.returns-in-Ok-clause-read
returns-in-Ok-clause-read c =
    let ok = c.in-Ok.ensures.ok in
    said_value c.args.bytes.now (view c.in-Ok.value) ok.0 ok.1
