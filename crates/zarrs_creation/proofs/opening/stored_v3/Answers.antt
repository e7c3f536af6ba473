use Rattle.std.proofs.Common.{◌≡◌, ◌∙◌, ap, subst, ℕ, List, Some, None, Ok, rules}
use Rattle.zarrs_metadata_v3.specs.View.{document_view}
use Rattle.zarrs_options.specs.Refusals.{create_refusal_of, RefusesCreation}
use Rattle.zarrs_creation.specs.Opening.{NamesOneOf, value_asked}
use Rattle.zarrs_creation.proofs.Openings.{v3_refused, v3_bad, v3_absent, v3_read}
use Rattle.zarrs_creation.proofs.opening.stored_v3.Goals as goal

pub returns-in_err-value : goal.returns-in_err-value
returns-in_err-value g c =
    let state = g.S.ReadableStorageTraits.state c.args.storage.now in
    let path = c.args.path.now in
    let why = v3_refused state path (create_refusal_of c.in_err-value.field-0.0) (subst (λ (k : List ℕ). RefusesCreation (value_asked state k) (create_refusal_of c.in_err-value.field-0.0)) c.in_ok-key.ensures.key c.in_err-value.ensures.refused) in
    let r = create_refusal_of c.in_err-value.field-0.0 in
    let named = subst (λ (k : List ℕ). NamesOneOf (λ (at : List ℕ). at ≡ k) r) c.in_ok-key.ensures.key c.in_err-value.ensures.named in
    record { read = search rules; refused = search (rules, why); named = search (rules, named) }

pub returns-in-None : goal.returns-in-None
returns-in-None g c =
    let state = g.S.ReadableStorageTraits.state c.args.storage.now in
    let path = c.args.path.now in
    let asked = subst (λ (k : List ℕ). value_asked state k ≡ Ok None) c.in_ok-key.ensures.key (c.in_ok-value.ensures.read ∙ ap Ok c.in-None.is) in
    record { read = v3_absent state path asked; refused = search rules; named = search rules }

pub returns-in_err-metadata-in-Some : goal.returns-in_err-metadata-in-Some
returns-in_err-metadata-in-Some g c =
    let state = g.S.ReadableStorageTraits.state c.args.storage.now in
    let path = c.args.path.now in
    let asked = subst (λ (k : List ℕ). value_asked state k ≡ Ok (Some c.in-Some.bytes)) c.in_ok-key.ensures.key (c.in_ok-value.ensures.read ∙ ap Ok c.in-Some.is) in
    let why = v3_bad state path (create_refusal_of c.in_err-metadata-in-Some.field-0.0) c.in-Some.bytes asked (rw (c.deref.ensures, c.in_ok-key.ensures.key) at c.in_err-metadata-in-Some.ensures.refused) in
    let r = create_refusal_of c.in_err-metadata-in-Some.field-0.0 in
    let named = subst (λ (k : List ℕ). NamesOneOf (λ (at : List ℕ). at ≡ k) r) c.in_ok-key.ensures.key c.in_err-metadata-in-Some.ensures.named in
    record { read = search rules; refused = search (rules, why); named = search (rules, named) }

pub returns-in_ok-metadata-in-Some : goal.returns-in_ok-metadata-in-Some
returns-in_ok-metadata-in-Some g c =
    let state = g.S.ReadableStorageTraits.state c.args.storage.now in
    let path = c.args.path.now in
    let asked = subst (λ (k : List ℕ). value_asked state k ≡ Ok (Some c.in-Some.bytes)) c.in_ok-key.ensures.key (c.in_ok-value.ensures.read ∙ ap Ok c.in-Some.is) in
    record { read = v3_read state path c.in-Some.bytes (document_view c.in_ok-metadata-in-Some.metadata) asked (rw (c.deref.ensures, c.in_ok-key.ensures.key) at c.in_ok-metadata-in-Some.ensures.read); refused = search rules; named = search rules }
