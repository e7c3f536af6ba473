use Rattle.std.specs.List.{AllZip}
use Rattle.zarrs_builder.proofs.names.given_names.Given as goal

-- a field for each name so far
abbrev pub invariant-loop-name : goal.invariant-loop-name
invariant-loop-name g l = AllZip g.D.IntoField.gives l.yielded l.fields.items
