use Rattle.std.proofs.Common.{refl, slice_range, arith, ◌≡◌, ◌+◌, ◌*◌, [], ◌∷◌, length, ap, sym, subst, ◌∙◌}
use Rattle.zarrs_codec_array.specs.Gathered.{IsGathered}
use Rattle.zarrs_codec_array.proofs.Gathering.{line_read, gathered-line, gathered-empty}
use Rattle.zarrs_codec_array.proofs.gather.copy_cells.Goals as goal

pub overflow_add-start : goal.overflow_add-start
overflow_add-start c =
    omega (arith, line_read c.args.size c.args.extent c.args.size c.args.start (length c.args.from.now) c.requires.within refl (omega arith))

pub slice_bounds-copy_from_slice-end : goal.slice_bounds-copy_from_slice-end
slice_bounds-copy_from_slice-end c =
    omega (arith, line_read c.args.size c.args.extent c.args.size c.args.start (length c.args.from.now) c.requires.within refl (omega arith))

pub returns-then-len-gt0 : goal.returns-then-len-gt0
returns-then-len-gt0 c =
    let n = c.args.size in
    let whole : c.args.start + c.args.extent * n ≡ c.args.start + length c.args.to.now = omega arith in
    subst (IsGathered n (c.args.extent ∷ []) (c.args.size ∷ []) c.args.start c.args.from.now) (ap (λ e. slice_range c.args.from.now c.args.start e) whole ∙ sym c.copy_from_slice.ensures.after)
    (gathered-line n c.args.extent c.args.size c.args.start c.args.from.now refl)

pub returns-else-len-gt0 : goal.returns-else-len-gt0
returns-else-len-gt0 c =
    gathered-empty c.args.size (c.args.extent ∷ []) (c.args.size ∷ []) c.args.from.now c.args.to.now c.args.start (omega arith)
