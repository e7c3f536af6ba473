use Rattle.std.proofs.Common.{rules, ◌≡◌, ◌<◌, length}
use Rattle.std.specs.List.{refill}
use Rattle.std.proofs.lemmas.Bool.{iff_false}
use Rattle.zarrs_subset.specs.Regions.{box_of}
use Rattle.zarrs_subset.specs.Walks.{positions_left}
use Rattle.zarrs_subset.proofs.Overlaps.{AllSome}
use Rattle.zarrs_subset.proofs.WalkLemmas.{refill-same, drop-next, drop-end, positions-empty, length-positions-some}
use Rattle.zarrs_subset.proofs.WalkLemmas.{positions-first, start_within_some, on_err}
use Rattle.zarrs_subset.proofs.indices.Indices.step.Goals as goal

pub returns-then-self-clause-some : goal.returns-then-self-clause-some
returns-then-self-clause-some c =
    let walk = c.args.self.now in
    let box = box_of walk.subset.now in
    let start : c.start-start.result.now ≡ walk.subset.now.start.items = search rules in
    let shape : c.shape-shape.result.now ≡ walk.subset.now.shape.items = search rules in
    let new : refill (length walk.current.items) walk.current.items c.advance.new.position ≡ c.advance.new.position =
    refill-same walk.current.items c.advance.new.position (search rules) in
    let holds = rw (start, shape) at c.advance.ensures.holds in
    let next = rw (start, shape, c.as_mut_slice.ensures.value) at c.advance.ensures.next in
    rw (c.if-self.true, c.requires, new) (drop-next box walk.current.items c.advance.new.position c.advance.result walk.subset.now.same_length holds next)

pub returns-then-self-clause-none : goal.returns-then-self-clause-none
returns-then-self-clause-none c =
    let walk = c.args.self.now in
    let start : c.start-start.result.now ≡ walk.subset.now.start.items = search rules in
    let shape : c.shape-shape.result.now ≡ walk.subset.now.shape.items = search rules in
    let last = rw (start, shape, c.as_mut_slice.ensures.value) at c.advance.ensures.last in
    rw (c.if-self.true, c.requires) (drop-end (box_of walk.subset.now) walk.current.items c.advance.result walk.subset.now.same_length last)

pub returns-then-is_empty-clause-none : goal.returns-then-is_empty-clause-none
returns-then-is_empty-clause-none c =
    let walk = c.args.self.now in
    rw (c.if-self.false, c.requires) (positions-empty (box_of walk.subset.now) walk.subset.now.same_length (search rules))

pub returns-in_err-self-clause-refused : goal.returns-in_err-self-clause-refused
returns-in_err-self-clause-refused c =
    let walk = c.args.self.now in
    let some : AllSome walk.subset.now.shape.items = λ k below z. iff_false c.is_empty.ensures c.if-is_empty.false (k, below, z) in
    let left : 0 < length (positions_left walk) = rw (c.if-self.false, c.requires) (length-positions-some (box_of walk.subset.now) walk.subset.now.same_length some) in
    on_err _ _ left

pub invariant_of-self-2 : goal.invariant_of-self-2
invariant_of-self-2 c =
    let a = c.args.self.now.subset.now in
    let is : c.in_ok-self.field-0.items ≡ a.start.items = search rules in
    let some : AllSome a.shape.items = λ k below z. iff_false c.is_empty.ensures c.if-is_empty.false (k, below, z) in
    record { inside = λ started. rw is (start_within_some a.start.items a.shape.items a.same_length some) }

pub returns-clause-some : goal.returns-clause-some
returns-clause-some c =
    let walk = c.args.self.now in
    let a = walk.subset.now in
    let is : c.in_ok-self.field-0.items ≡ a.start.items = search rules in
    let some : AllSome a.shape.items = λ k below z. iff_false c.is_empty.ensures c.if-is_empty.false (k, below, z) in
    rw (c.if-self.false, c.requires) (positions-first (box_of a) c.in_ok-self.field-0.items a.same_length some is)
