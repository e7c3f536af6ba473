use Rattle.std.proofs.Common.{ℕ, List, subst}
use Rattle.std.specs.List.{All}
use Rattle.zarrs_directory.specs.Directory.{IsName, names_of}
use Rattle.zarrs_directory.proofs.files.Directory.path_of.Goals as goal

pub returns-clause-names : goal.returns-clause-names
returns-clause-names g c = subst (λ (key : List ℕ). All IsName (names_of key)) c.as_str.ensures.text (c.in_ok-is_path.ensures.0 c.if-not-branch.false)
