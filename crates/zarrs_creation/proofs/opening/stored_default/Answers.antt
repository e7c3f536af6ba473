use Rattle.std.proofs.Common.{◌≡◌, ◌∙◌, inl, inr, ap, Ok, option_map, rules}
use Rattle.zarrs_metadata.specs.Versions.{metadata_view}
use Rattle.zarrs_options.specs.Refusals.{CreateRefusal, create_refusal_of, RefusesCreation}
use Rattle.zarrs_options.specs.declared.versions.MetadataRetrieveVersion.TheVariants as retrieve
use Rattle.zarrs_creation.specs.Opening.{IsMetadataKey, IsV2Key, NamesOneOf, v3_key, stored_v2, stored_default}
use Rattle.zarrs_creation.proofs.Named.{named_more}
use Rattle.zarrs_creation.proofs.Openings.{default_refused, default_v2_refused, default_v3, default_v2}
use Rattle.zarrs_creation.proofs.opening.stored_default.Goals as goal

pub returns-in_err-found : goal.returns-in_err-found
returns-in_err-found g c =
    let state = g.S.ReadableStorageTraits.state c.args.storage.now in
    let path = c.args.path.now in
    let why = default_refused state path (create_refusal_of c.in_err-found.field-0.0) c.in_err-found.ensures.refused in
    let r = create_refusal_of c.in_err-found.field-0.0 in
    let named = named_more (λ at. at ≡ v3_key path) (IsMetadataKey retrieve.Default path) r (λ at is. inl is) c.in_err-found.ensures.named in
    record { read = search rules; refused = search (rules, why); named = search (rules, named) }

pub returns-in-Some : goal.returns-in-Some
returns-in-Some g c =
    let state = g.S.ReadableStorageTraits.state c.args.storage.now in
    let path = c.args.path.now in
    record { read = default_v3 state path (metadata_view c.in-Some.metadata) (c.in_ok-found.ensures.read ∙ ap (λ m. Ok (option_map metadata_view m)) c.in-Some.is); refused = search rules; named = search rules }

pub returns-in-None : goal.returns-in-None
returns-in-None g c =
    let state = g.S.ReadableStorageTraits.state c.args.storage.now in
    let path = c.args.path.now in
    let none = c.in_ok-found.ensures.read ∙ ap (λ m. Ok (option_map metadata_view m)) c.in-None.is in
    let found = default_v2 state path in
    let refused : (r : CreateRefusal) → RefusesCreation (stored_v2 state path) r → RefusesCreation (stored_default state path) r = λ r. default_v2_refused state path r none in
    let named : (r : CreateRefusal) → NamesOneOf (IsV2Key path) r → NamesOneOf (IsMetadataKey retrieve.Default path) r = λ r is. named_more (IsV2Key path) (IsMetadataKey retrieve.Default path) r (λ at key. inr key) is in
    record { read = search (rules, none, found); refused = search (rules, refused); named = search (rules, named) }
