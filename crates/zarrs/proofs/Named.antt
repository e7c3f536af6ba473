-- An array whose dimensions were named, or not, has metadata that says the same parts.
use Rattle.std.proofs.Common.{◌≡◌, ℕ, List, Option, Result, Ok, Err, OnOk, OnErr, sym, subst}
use Rattle.zarrs_metadata.specs.Versions.{MetadataData}
use Rattle.zarrs_creation.specs.Changes.{with_names, naming}
use Rattle.zarrs_creation.specs.Meanings.{Meaning, Says}
use Rattle.zarrs_creation.proofs.Changed.{names_say_nothing}

pub named_or_not : {E : Type 0} (r : Result (Unit {0}) E) (names : Option (List (Option (List ℕ)))) (old new : MetadataData) (p : Meaning)
    → Says old p → OnOk r (new ≡ with_names names old) → OnOk r (naming names old ≡ Ok tt) → OnErr r (new ≡ old) → Says new p
named_or_not (Ok done) names old new p says named fit kept = subst (λ (m : MetadataData). Says m p) (sym named) (names_say_nothing old names p says fit)
named_or_not (Err e) names old new p says named fit kept = subst (λ (m : MetadataData). Says m p) (sym kept) says
