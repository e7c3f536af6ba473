use Rattle.std.proofs.Common.{◌≡◌, rules}
use Rattle.zarrs_metadata_v3.specs.View.{document_view}
use Rattle.zarrs_options.specs.Refusals.{create_refusal_of}
use Rattle.zarrs_creation.proofs.Named.{fields_names}
use Rattle.zarrs_creation.proofs.Openings.{no_value, unsaid, all_understood, not_understood}
use Rattle.zarrs_creation.proofs.opening.document_from.Goals as goal

pub returns-in-Err-InvalidShape : goal.returns-in-Err-InvalidShape
returns-in-Err-InvalidShape c =
    record { read = search rules; refused = rw (unsaid c.args.key c.args.bytes.now (rw c.in-Err-InvalidShape.field-0-is at c.in-Err-InvalidShape.ensures.refused)) (no_value _ _ _ c.invalid_metadata.ensures.refused); named = search rules }

pub returns-in_err-check_fields : goal.returns-in_err-check_fields
returns-in_err-check_fields c =
    let why = not_understood c.args.key c.args.bytes.now (document_view c.in-Ok.metadata) (create_refusal_of c.in_err-check_fields.field-0.0) c.in-Ok.ensures.read c.in_err-check_fields.ensures.refused in
    let named = fields_names (λ at. at ≡ c.args.key) (document_view c.in-Ok.metadata).additional_fields (create_refusal_of c.in_err-check_fields.field-0.0) c.in_err-check_fields.ensures.refused in
    record { read = search rules; refused = search (rules, why); named = search (rules, named) }

pub returns : goal.returns
returns c =
    record { read = all_understood c.args.key c.args.bytes.now (document_view c.in-Ok.metadata) c.in-Ok.ensures.read c.in_ok-check_fields.ensures.understood; refused = search rules; named = search rules }
