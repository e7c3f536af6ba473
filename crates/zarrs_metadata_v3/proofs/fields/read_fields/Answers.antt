use Rattle.std.proofs.Common.{◌≡◌, [], ◌∷◌, ◌++◌, sym, ap, ◌∙◌, subst, append_assoc}
use Rattle.std.specs.List.Sorted.{IsStrictlySortedBy}
use Rattle.std.specs.Map.{keys_of}
use Rattle.std.specs.String.{string_cmp}
use Rattle.serde_json.proofs.Views.{Entry}
use Rattle.zarrs_metadata_v3.specs.View.{fields_view}
use Rattle.zarrs_metadata_v3.proofs.FieldLemmas.{read_next}
use Rattle.zarrs_metadata_v3.proofs.fields.read_fields.Goals as goal

pub loop-name-preserved : goal.loop-name-preserved
loop-name-preserved c =
    let l = c.loop-name in
    let done = l.invariant.0 in
    let e : Entry = (c.in-Some.name, c.in-Some.value) in
    let left = c.next.new.self in
    let all : c.args.members.entries ≡ done ++ e ∷ left = l.invariant.1 ∙ ap (λ es. done ++ es) c.in-Some.ensures.steps in
    let ordered = subst (λ es. IsStrictlySortedBy string_cmp (keys_of es)) all c.len-count.ensures.ordered in
    let next = read_next done e left l.fields.entries c.from_value.result ordered l.invariant.2 l.invariant.3 c.from_value.ensures in (
      done ++ e ∷ [],
      all ∙ sym (append_assoc done (e ∷ []) left),
      ap keys_of c.in_ok-insert.ensures.entries ∙ next.0,
      ap fields_view c.in_ok-insert.ensures.entries ∙ next.1,
    )
