use Rattle.std.proofs.Common.{rules, ◌≡◌, ◌-◌, length, sym, ap, ◌∙◌}
use Rattle.zarrs_subset.specs.Boxes.{zip_with}
use Rattle.zarrs_subset.proofs.Overlaps.{EndsFit-shifted, length-zip_with}
use Rattle.zarrs_subset.proofs.subset.ArraySubset.seen_from.Goals as goal

pub invariant_of-result : goal.invariant_of-result
invariant_of-result c =
    let a = c.args.self.now in
    let O = c.args.corner.now in
    let same : length a.start.items ≡ length O = sym c.requires.dimensions in
    let copy : c.in_ok-start.start.items ≡ a.start.items = search rules in
    let start : c.extents.result.items ≡ zip_with (λ s t. s - t) a.start.items O = c.extents.ensures ∙ ap (λ l. zip_with (λ s t. s - t) l O) copy in
    let shape : c.in_ok-shape.shape.items ≡ a.shape.items = search rules in
    record {
      same_length = rw (start, shape) (length-zip_with (λ s t. s - t) a.start.items O same ∙ a.same_length);
      ends_fit = rw (start, shape) (EndsFit-shifted a.start.items a.shape.items O a.ends_fit);
    }
