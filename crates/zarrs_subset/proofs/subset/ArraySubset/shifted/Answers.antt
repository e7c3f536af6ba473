use Rattle.std.proofs.Common.{rules, ◌≡◌, ◌+◌, length, sym, ap, ◌∙◌}
use Rattle.zarrs_subset.specs.Boxes.{zip_with}
use Rattle.zarrs_subset.specs.Regions.{box_from}
use Rattle.zarrs_subset.proofs.Overlaps.{EndsFit-shift, length-zip_with}
use Rattle.zarrs_subset.proofs.subset.ArraySubset.shifted.Goals as goal

pub invariant_of-result : goal.invariant_of-result
invariant_of-result c =
    let a = c.args.self.now in
    let O = c.args.offset.now in
    let same : length a.start.items ≡ length O = sym c.requires.dimensions in
    let copy : c.in_ok-start.start.items ≡ a.start.items = search rules in
    let start : c.shifted.result.items ≡ zip_with (λ s t. s + t) a.start.items O = c.shifted.ensures ∙ ap (λ l. zip_with (λ s t. s + t) l O) copy in
    let shape : c.in_ok-shape.shape.items ≡ a.shape.items = search rules in
    record {
      same_length = rw (start, shape) (length-zip_with (λ s t. s + t) a.start.items O same ∙ a.same_length);
      ends_fit = rw (start, shape) (EndsFit-shift a.start.items a.shape.items O a.same_length same c.requires.ends);
    }

pub returns : goal.returns
returns c =
    let a = c.args.self.now in
    let O = c.args.offset.now in
    let copy : c.in_ok-start.start.items ≡ a.start.items = search rules in
    let start : c.shifted.result.items ≡ zip_with (λ s t. s + t) a.start.items O = c.shifted.ensures ∙ ap (λ l. zip_with (λ s t. s + t) l O) copy in
    let shape : c.in_ok-shape.shape.items ≡ a.shape.items = search rules in
    ap (λ l. box_from l c.in_ok-shape.shape.items) start ∙ ap (λ l. box_from (zip_with (λ s t. s + t) a.start.items O) l) shape
