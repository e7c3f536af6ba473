use Rattle.std.proofs.Common.{arith, rules, ◌≡◌, ◌-◌, length}
use Rattle.zarrs_subset.specs.Boxes.{zip_with}
use Rattle.zarrs_subset.proofs.Overlaps.{EndsFit-between, length-zip_with}
use Rattle.zarrs_subset.proofs.subset.ArraySubset.new_with_start_end_exc.Goals as goal

pub invariant_of-result-clause-same_length : goal.invariant_of-result-clause-same_length
invariant_of-result-clause-same_length c =
    let same : length c.args.end.items ≡ length c.args.start.items = search rules in
    let shape : c.extents-shape.result.items ≡ zip_with (λ e s. e - s) c.args.end.items c.args.start.items = search rules in
    rw shape (omega (arith, length-zip_with (λ e s. e - s) c.args.end.items c.args.start.items same))

pub invariant_of-result-clause-ends_fit : goal.invariant_of-result-clause-ends_fit
invariant_of-result-clause-ends_fit c =
    let same : length c.args.start.items ≡ length c.args.end.items = search rules in
    let shape : c.extents-shape.result.items ≡ zip_with (λ e s. e - s) c.args.end.items c.args.start.items = search rules in
    rw shape (EndsFit-between _ _ same
    (λ k below. c.loop-k.invariant.ordered k (search rules)) (λ k below. c.loop-k.invariant.fits k (search rules)))
