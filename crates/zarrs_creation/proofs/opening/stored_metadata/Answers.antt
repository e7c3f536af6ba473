use Rattle.std.proofs.Common.{◌∙◌, ap, Ok, option_map, rules}
use Rattle.zarrs_metadata.specs.Versions.{metadata_view}
use Rattle.zarrs_options.specs.Refusals.{create_refusal_of}
use Rattle.zarrs_creation.proofs.Openings.{metadata_refused, metadata_absent, metadata_read}
use Rattle.zarrs_creation.proofs.opening.stored_metadata.Goals as goal

pub returns-in_err-found : goal.returns-in_err-found
returns-in_err-found g c =
    let state = g.S.ReadableStorageTraits.state c.args.storage.now in
    let path = c.args.path.now in
    let why = metadata_refused c.args.version state path (create_refusal_of c.in_err-found.field-0.0) c.in_err-found.ensures.refused in
    record { read = search rules; refused = search (rules, why); named = search rules }

pub returns-in-Some : goal.returns-in-Some
returns-in-Some g c =
    let state = g.S.ReadableStorageTraits.state c.args.storage.now in
    let path = c.args.path.now in
    record { read = metadata_read c.args.version state path (metadata_view c.in-Some.metadata) (c.in_ok-found.ensures.read ∙ ap (λ m. Ok (option_map metadata_view m)) c.in-Some.is); refused = search rules; named = search rules }

pub returns-in-None : goal.returns-in-None
returns-in-None g c =
    let state = g.S.ReadableStorageTraits.state c.args.storage.now in
    let path = c.args.path.now in
    record { read = search rules; refused = metadata_absent c.args.version state path (c.in_ok-found.ensures.read ∙ ap (λ m. Ok (option_map metadata_view m)) c.in-None.is); named = search rules }
