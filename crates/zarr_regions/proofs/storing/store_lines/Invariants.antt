use Rattle.std.proofs.Common.{◌≡◌, List, ℕ}
use Rattle.zarrs_subset.specs.Regions.{box_of, positions}
use Rattle.zarrs.specs.Arrays.{layout_of_array}
use Rattle.zarr_arrays.specs.Bands.{count_left, places_left}
use Rattle.zarr_regions.specs.Cells.{StoresLines}
use Rattle.zarr_regions.proofs.BandLemmas.{Front}
use Rattle.zarr_regions.proofs.storing.store_lines.Given as goal

abbrev pub invariant-loop-bands : goal.invariant-loop-bands
invariant-loop-bands g l = record {
  front :
      Front
      (λ (done : List (List ℕ)). StoresLines (layout_of_array l.initial.opened.array) l.rows.form l.rows.size l.rows.width 0 l.column done
      (g.R.Read.remaining l.initial.input) (g.R.Read.remaining l.input) l.initial.opened.store l.opened.store)
      (places_left l.bands) (positions (box_of l.fn.region));
  array : l.opened.array ≡ l.initial.opened.array;
}

abbrev pub decreases-loop-bands : goal.decreases-loop-bands
decreases-loop-bands g l = count_left l.bands
