use Rattle.std.proofs.Common.{◌<◌, ◌++◌, ◌∷◌, [], length, get_or, take, sym, ap, ◌∙◌, arith}
use Rattle.std.proofs.lemmas.List.{take_more}
use Rattle.zarr_cells.specs.Npy.{extents}
use Rattle.zarr_cells.proofs.ListLemmas.{extents_push}
use Rattle.zarr_cells.proofs.npy.extents.Goals as goal

pub loop-extent-preserved : goal.loop-extent-preserved
loop-extent-preserved c =
    let i = c.loop-extent.extent-index in
    let shape = c.args.shape.now in
    let lt : i < length shape = omega arith in
    c.in_ok-push.ensures.items
    ∙ ap (λ l. l ++ 44 ∷ [])
    (c.in_ok-extend_from_slice.ensures.items ∙ ap (λ l. l ++ c.as_bytes.result.now) c.loop-extent.invariant
    ∙ ap (λ l. extents (take i shape) ++ l) (c.as_bytes.ensures.value ∙ c.format.ensures.text))
    ∙ sym (ap extents (take_more shape i 0 lt) ∙ extents_push (take i shape) (get_or shape i 0))
