use Rattle.std.proofs.Common.{◌≡◌}
use Rattle.std.specs.List.{flat_map}
use Rattle.zarr_cells.specs.Ascii.{escaped}
use Rattle.zarr_cells.proofs.ascii.escaped_text.Given as goal

abbrev pub invariant-loop-character : goal.invariant-loop-character
invariant-loop-character l = l.made.items ≡ flat_map escaped l.yielded
