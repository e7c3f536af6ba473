use Rattle.zarr_arrays.specs.Bands.{count_left}
use Rattle.zarr_regions.proofs.storing.store_text_lines.Given as goal

abbrev pub decreases-loop-bands : goal.decreases-loop-bands
decreases-loop-bands g l = count_left l.bands
