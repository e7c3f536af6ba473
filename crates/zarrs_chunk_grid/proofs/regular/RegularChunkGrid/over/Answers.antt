use Rattle.std.proofs.Common.{length, ap, ◌∙◌, arith}
use Rattle.std.specs.Int.NonZero.{non_zero_u64_get}
use Rattle.std.proofs.lemmas.List.{length-map}
use Rattle.zarrs_metadata_parts.specs.Lists.{sizes_of}
use Rattle.zarrs_chunk_grid.proofs.RegularLemmas.{chunk_counts_long, counts_read}
use Rattle.zarrs_chunk_grid.proofs.regular.RegularChunkGrid.over.Goals as goal

pub invariant_of-result-clause-grid_dimensions : goal.invariant_of-result-clause-grid_dimensions
invariant_of-result-clause-grid_dimensions c =
    let same = c.requires in
    let counts = rw (c.deref.ensures.value, c.deref-2.ensures.value) at c.in_ok-grid_shape.ensures in
    let read = counts_read c.args.array_shape.items c.args.chunk_shape.items in
    ap length (counts ∙ read) ∙ chunk_counts_long c.args.array_shape.items (sizes_of c.args.chunk_shape.items)
    (omega (arith, length-map c.args.chunk_shape.items non_zero_u64_get))

pub invariant_of-result-clause-counted : goal.invariant_of-result-clause-counted
invariant_of-result-clause-counted c =
    let counts = rw (c.deref.ensures.value, c.deref-2.ensures.value) at c.in_ok-grid_shape.ensures in
    counts ∙ counts_read c.args.array_shape.items c.args.chunk_shape.items
