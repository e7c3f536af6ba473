use Rattle.std.proofs.Common.{◌≡◌, Some, map, take}
use Rattle.zarr_cells.specs.Numbers.{number_in}
use Rattle.zarr_cells.proofs.words.part_numbers.Given as goal

abbrev pub invariant-loop-part : goal.invariant-loop-part
invariant-loop-part l = map (λ number. Some number) l.found.items ≡ map (λ part. number_in part.now) (take l.part-index l.parts)
