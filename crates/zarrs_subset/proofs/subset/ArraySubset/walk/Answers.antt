use Rattle.std.proofs.Common.{rules, ◌≡◌, ap, ◌∙◌}
use Rattle.std.proofs.lemmas.Bool.{iff_false}
use Rattle.zarrs_subset.specs.Regions.{box_of, place_in}
use Rattle.zarrs_subset.proofs.Overlaps.{AllSome}
use Rattle.zarrs_subset.proofs.WalkLemmas.{positions-empty, start_within_some, place-start}
use Rattle.zarrs_subset.proofs.subset.ArraySubset.walk.Goals as goal

pub returns-then-is_empty-clause-none : goal.returns-then-is_empty-clause-none
returns-then-is_empty-clause-none c = positions-empty (box_of c.args.self.now) c.args.self.now.same_length (search rules)

pub returns-then-is_empty-clause-first : goal.returns-then-is_empty-clause-first
returns-then-is_empty-clause-first c = positions-empty (box_of c.args.self.now) c.args.self.now.same_length (search rules)

pub invariant_of-result : goal.invariant_of-result
invariant_of-result c =
    let a = c.args.self.now in
    let is : c.in_ok-current.current.items ≡ a.start.items = search rules in
    let some : AllSome a.shape.items = λ k below z. iff_false c.is_empty.ensures c.if-is_empty.false (k, below, z) in
    record { inside = rw is (start_within_some a.start.items a.shape.items a.same_length some) }

pub returns-clause-first : goal.returns-clause-first
returns-clause-first c =
    let a = c.args.self.now in
    let is : c.in_ok-current.current.items ≡ a.start.items = search rules in
    ap (place_in (box_of a)) is ∙ place-start a.start.items a.shape.items a.same_length
