use Rattle.std.proofs.Common.{◌≡◌, List, ℕ, take, map, refl, subst, ap, ◌∙◌, arith}
use Rattle.std.specs.Borrow.{Bor}
use Rattle.std.specs.List.{All}
use Rattle.std.proofs.lemmas.Bool.{false≢true}
use Rattle.std.proofs.lemmas.List.{take_all}
use Rattle.std.proofs.lemmas.List.Elements.{All-map, All-more}
use Rattle.zarrs_directory.specs.Directory.{IsName, names_of}
use Rattle.zarrs_directory.proofs.NameLemmas.{name_among}
use Rattle.zarrs_directory.proofs.names.is_path.Goals as goal

pub loop-name-preserved : goal.loop-name-preserved
loop-name-preserved c =
    All-more (λ (name : Bor (List ℕ)). IsName name.now) c.deref-name-items.result.now c.loop-name.name-index _ (omega arith) c.loop-name.invariant
    (c.if-not-is_name.ensures.0 refl)

pub returns-then-not-is_name : goal.returns-then-not-is_name
returns-then-not-is_name c =
    let parts = c.deref-name-items.result.now in
    let are : map (λ (name : Bor (List ℕ)). name.now) parts ≡ names_of c.args.key.now =
    ap (map (λ (name : Bor (List ℕ)). name.now)) c.deref-name-items.ensures.value ∙ c.in_ok-names.ensures in (
      λ wrong. absurd (false≢true wrong),
      λ all. c.if-not-is_name.ensures.1 (name_among parts (names_of c.args.key.now) c.loop-name.name-index _ are c.loop-name-test.true all),
    )

pub returns : goal.returns
returns c =
    let full : take c.loop-name.name-index c.deref-name-items.result.now ≡ c.deref-name-items.result.now =
    take_all c.loop-name.name-index c.deref-name-items.result.now (omega arith) in
    let each : All (λ (name : Bor (List ℕ)). IsName name.now) c.deref-name-items.result.now =
    subst (All (λ (name : Bor (List ℕ)). IsName name.now)) full c.loop-name.invariant in
    let all : All IsName (names_of c.args.key.now) =
    subst (All IsName) (ap (map (λ (name : Bor (List ℕ)). name.now)) c.deref-name-items.ensures.value ∙ c.in_ok-names.ensures)
    (All-map IsName (λ (name : Bor (List ℕ)). name.now) c.deref-name-items.result.now each) in
    (λ yes. all, λ named. refl)
