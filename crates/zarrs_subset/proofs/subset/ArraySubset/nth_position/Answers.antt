use Rattle.std.proofs.Common.{rules, ◌≡◌, length, sym, ap, ◌∙◌, Some}
use Rattle.zarrs_subset.specs.Boxes.{InShape, offset_by, place, unravel}
use Rattle.zarrs_subset.proofs.Counts.{length-InShape}
use Rattle.zarrs_subset.proofs.Shifts.{index_fits, offset_by-sums}
use Rattle.zarrs_subset.proofs.Positions.{slice_get-positions, unravel-place}
use Rattle.zarrs_subset.proofs.subset.ArraySubset.nth_position.Goals as goal

pub shifted-requires-clause-same_length : goal.shifted-requires-clause-same_length
shifted-requires-clause-same_length c =
    let a = c.args.self.now in
    let start : c.deref-2.result.now ≡ a.start.items = search rules in
    let inside : InShape a.shape.items c.in_ok-offset.offset.items = search rules in
    rw start (length-InShape a.shape.items c.in_ok-offset.offset.items inside ∙ sym a.same_length)

pub shifted-requires-clause-fits : goal.shifted-requires-clause-fits
shifted-requires-clause-fits c =
    let a = c.args.self.now in
    let start : c.deref-2.result.now ≡ a.start.items = search rules in
    let inside : InShape a.shape.items c.in_ok-offset.offset.items = search rules in
    rw start (index_fits a.start.items a.shape.items c.in_ok-offset.offset.items a.same_length a.ends_fit inside)

pub returns : goal.returns
returns c =
    let a = c.args.self.now in
    let q = c.in_ok-offset.offset.items in
    let start : c.deref-2.result.now ≡ a.start.items = search rules in
    let inside : InShape a.shape.items q = search rules in
    let number : place a.shape.items q ≡ c.args.number = search rules in
    let long : length q ≡ length a.start.items = length-InShape a.shape.items q inside ∙ sym a.same_length in
    let is : c.shifted.result.items ≡ offset_by a.start.items q = (rw start at c.shifted.ensures) ∙ offset_by-sums a.start.items q long in
    slice_get-positions _ _ _ a.same_length c.requires
    ∙ ap (λ p. Some (offset_by a.start.items p)) (ap (λ n. unravel a.shape.items n) (sym number) ∙ unravel-place _ _ inside) ∙ ap (λ p. Some p) (sym is)
