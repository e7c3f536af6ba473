use Rattle.std.proofs.Common.{◌≡◌, drop}
use Rattle.zarr_words.specs.Named.{value_named}
use Rattle.zarr_words.proofs.words.Given.get.Given as goal

abbrev pub invariant-loop-known : goal.invariant-loop-known
invariant-loop-known l = value_named l.self.values.items l.name ≡ value_named (drop l.known-index l.self.values.items) l.name
