-- What joins the cells of an array over a box to a function of positions.
use Rattle.std.proofs.Common.{◌≡◌, ℕ, ◌<◌, List, [], length, map, Some, sym, ap, ◌∙◌, arith}
use Rattle.std.proofs.lemmas.List.{length-map, get_or-map, ext_get_or}
use Rattle.std.proofs.lemmas.Option.{get_or_from_slice_get}
use Rattle.zarrs_subset.specs.Boxes.{position_count, place, unravel, offset_by}
use Rattle.zarrs_subset.specs.Regions.{Box, IsLong, Holds, positions, cell_in}
use Rattle.zarrs_subset.proofs.Positions.{unravel_in, place-unravel, length-positions, get_or-positions, in_box-offset_by, offset_from-by}

-- cells that are those of f at each position are the list of f over the positions
pub cells_are : {X : Type 0} (f : List ℕ → X) (box : Box) (cs : List X) (d : X) → IsLong box → length cs ≡ position_count box.shape
    → ((p : List ℕ) → Holds box p → cell_in box cs p ≡ Some (f p)) → cs ≡ map f (positions box)
cells_are f box cs d long count is =
    let len = length-map (positions box) f ∙ length-positions box.start box.shape long in
    ext_get_or d cs (map f (positions box)) (count ∙ sym len)
    (λ k h.
    let below : k < position_count box.shape = omega arith in
    let inside = unravel_in box.shape k below in
    let p = offset_by box.start (unravel box.shape k) in
    let at = is p (in_box-offset_by box.start box.shape (unravel box.shape k) long inside) in
    let number = ap (λ q. place box.shape q) (offset_from-by box.start box.shape (unravel box.shape k) long inside) ∙ place-unravel box.shape k below in
    get_or_from_slice_get cs k (f p) d (rw number at at)
    ∙ ap f (sym (get_or-positions box.start box.shape k [] long below))
    ∙ sym (get_or-map f (positions box) k [] d (omega (arith, length-positions box.start box.shape long))))
