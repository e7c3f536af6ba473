use Rattle.std.proofs.Common.{◌≡◌, ◌<◌, ◌^◌, List, sum, sym, ap, subst, ◌∙◌}
use Rattle.std.specs.declared.num.NonZeroU64.{NonZeroU64}
use Rattle.zarrs_metadata_parts.specs.Lists.{sizes_of}
use Rattle.zarrs_chunk_grid.specs.Axes.{ends_of_sizes}
use Rattle.zarrs_chunk_grid.proofs.dimension.SizeList.try_clone.Goals as goal

pub invariant_of-result : goal.invariant_of-result
invariant_of-result c =
    let list = c.args.self.now in
    let sizes_are : c.in_ok-from_slice.field-0.items ≡ list.sizes.items = c.in_ok-from_slice.ensures.items ∙ c.deref.ensures.value in
    let ends_are : c.in_ok-from_slice-2.field-0.items ≡ list.ends.items = c.in_ok-from_slice-2.ensures.items ∙ c.deref-2.ensures.value in
    record {
      summed = ends_are ∙ list.summed ∙ ap (λ (sizes : List NonZeroU64). ends_of_sizes (sizes_of sizes)) (sym sizes_are);
      fits = subst (λ (sizes : List NonZeroU64). sum (sizes_of sizes) < 2 ^ 64) (sym sizes_are) list.fits;
    }
