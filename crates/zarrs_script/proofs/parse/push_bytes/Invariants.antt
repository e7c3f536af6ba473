use Rattle.std.proofs.Common.{◌≡◌, ◌-◌, ◌++◌}
use Rattle.zarrs_script.specs.CellTexts.{low_bytes}
use Rattle.zarrs_script.proofs.parse.push_bytes.Given as goal

abbrev pub invariant-loop : goal.invariant-loop
invariant-loop l = l.cells.items ++ low_bytes (l.count - l.counter) l.rest ≡ l.fn.cells.items ++ low_bytes l.count l.number
