use Rattle.std.proofs.Common.{◌≡◌, ◌∙◌, ap, subst, ℕ, List, Some, None, Ok, rules}
use Rattle.zarrs_metadata_v2.specs.View.{document_v2_view}
use Rattle.zarrs_options.specs.Refusals.{create_refusal_of, RefusesCreation}
use Rattle.zarrs_creation.specs.Opening.{NamesOneOf, value_asked}
use Rattle.zarrs_creation.proofs.Openings.{attributes_refused, attributes_bad, attributes_absent, attributes_read}
use Rattle.zarrs_creation.proofs.opening.attributed.Goals as goal

pub returns-in_err-value : goal.returns-in_err-value
returns-in_err-value g c =
    let state = g.S.ReadableStorageTraits.state c.args.storage.now in
    let path = c.args.path.now in
    let why = attributes_refused state path (create_refusal_of c.in_err-value.field-0.0) (document_v2_view c.args.metadata) (subst (λ (k : List ℕ). RefusesCreation (value_asked state k) (create_refusal_of c.in_err-value.field-0.0)) c.in_ok-key.ensures.key c.in_err-value.ensures.refused) in
    let r = create_refusal_of c.in_err-value.field-0.0 in
    let named = subst (λ (k : List ℕ). NamesOneOf (λ (at : List ℕ). at ≡ k) r) c.in_ok-key.ensures.key c.in_err-value.ensures.named in
    record { read = search rules; refused = search (rules, why); named = search (rules, named) }

pub returns-in-None : goal.returns-in-None
returns-in-None g c =
    let state = g.S.ReadableStorageTraits.state c.args.storage.now in
    let path = c.args.path.now in
    let asked = subst (λ (k : List ℕ). value_asked state k ≡ Ok None) c.in_ok-key.ensures.key (c.in_ok-value.ensures.read ∙ ap Ok c.in-None.is) in
    record { read = attributes_absent state path (document_v2_view c.args.metadata) asked; refused = search rules; named = search rules }

pub returns-in-Ok : goal.returns-in-Ok
returns-in-Ok g c =
    let state = g.S.ReadableStorageTraits.state c.args.storage.now in
    let path = c.args.path.now in
    let asked = subst (λ (k : List ℕ). value_asked state k ≡ Ok (Some c.in-Some.bytes)) c.in_ok-key.ensures.key (c.in_ok-value.ensures.read ∙ ap Ok c.in-Some.is) in
    record { read = rw c.with_attributes.ensures (attributes_read state path (document_v2_view c.args.metadata) c.in-Some.bytes _ asked (rw c.deref.ensures at c.in-Ok.ensures.read)); refused = search rules; named = search rules }

pub returns-in-Err-InvalidShape : goal.returns-in-Err-InvalidShape
returns-in-Err-InvalidShape g c =
    let state = g.S.ReadableStorageTraits.state c.args.storage.now in
    let path = c.args.path.now in
    let asked = subst (λ (k : List ℕ). value_asked state k ≡ Ok (Some c.in-Some.bytes)) c.in_ok-key.ensures.key (c.in_ok-value.ensures.read ∙ ap Ok c.in-Some.is) in
    record { read = search rules; refused = attributes_bad state path _ (document_v2_view c.args.metadata) c.in-Some.bytes asked (rw (c.deref.ensures, c.in-Err-InvalidShape.field-0-is) at c.in-Err-InvalidShape.ensures.refused) (rw c.in_ok-key.ensures.key at c.invalid_metadata.ensures.refused); named = subst (λ (k : List ℕ). NamesOneOf (λ (at : List ℕ). at ≡ k) (create_refusal_of c.invalid_metadata.result)) c.in_ok-key.ensures.key c.invalid_metadata.ensures.named }
