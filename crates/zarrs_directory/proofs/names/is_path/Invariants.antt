use Rattle.std.proofs.Common.{take}
use Rattle.std.specs.List.{All}
use Rattle.zarrs_directory.specs.Directory.{IsName}
use Rattle.zarrs_directory.proofs.names.is_path.Given as goal

abbrev pub invariant-loop-name : goal.invariant-loop-name
invariant-loop-name l = All (λ name. IsName name.now) (take l.name-index l.name-items)
