use Rattle.std.proofs.Common.{◌≡◌, ℕ, ◌-◌, List, map, subst, ap, ◌∙◌}
use Rattle.zarrs_subset.specs.Boxes.{ends, place}
use Rattle.zarrs_subset.specs.Regions.{box_of}
use Rattle.zarr_arrays.specs.Wanted.{IsSpan}
use Rattle.zarr_arrays.proofs.WantedLemmas.{count_found, number_found, span_has}
use Rattle.zarr_arrays.proofs.places.part_places.Goals as goal

pub returns-in-Some : goal.returns-in-Some
returns-in-Some c =
    let part = box_of c.args.part.now in
    let shape = c.args.shape.now in
    let found = c.in-Some-Some-Some in
    let count = count_found shape c.element_count.result found.count found.is-0 c.element_count.ensures in
    let first = number_found shape c.start.result.now c.ravel_indices.result found.first found.is-1 c.ravel_indices.ensures in
    let last = number_found shape c.deref-2.result.now c.ravel_indices-2.result found.last found.is-2 c.ravel_indices-2.ensures in
    let ends_at : c.deref-2.result.now ≡ map (λ end. end - 1) (ends part.start part.shape) =
    c.deref-2.ensures.value ∙ c.in_ok-last.ensures ∙ ap (λ (l : List ℕ). map (λ end. end - 1) l) (c.deref.ensures.value ∙ c.in_ok-end_exc.ensures) in
    span_has shape c.args.cell part.start part.shape found.first found.last c.in-Some.wanted (first ∙ ap (place shape) c.start.ensures)
    (last ∙ ap (place shape) ends_at) (subst (λ (n : ℕ). IsSpan found.first found.last n c.args.cell c.in-Some.wanted) count c.in-Some.ensures)
