use Rattle.std.proofs.Common.{List, ℕ}
use Rattle.zarrs_subset.specs.Regions.{box_of, positions}
use Rattle.zarrs.specs.Arrays.{layout_of_array}
use Rattle.zarrs_directory.specs.Directory.{directory_of}
use Rattle.zarr_arrays.specs.Bands.{count_left, places_left}
use Rattle.zarr_regions.specs.Cells.{WritesLines}
use Rattle.zarr_regions.proofs.BandLemmas.{Front}
use Rattle.zarr_regions.proofs.writing.write_lines.Given as goal

abbrev pub invariant-loop-bands : goal.invariant-loop-bands
invariant-loop-bands g l =
    Front
    (λ (done : List (List ℕ)). WritesLines (layout_of_array l.opened.array) (directory_of l.opened.store) l.rows.form l.rows.size l.rows.width 0 l.column done
    (g.W.Write.contents l.initial.out) (g.W.Write.contents l.out))
    (places_left l.bands) (positions (box_of l.fn.region))

abbrev pub decreases-loop-bands : goal.decreases-loop-bands
decreases-loop-bands g l = count_left l.bands
