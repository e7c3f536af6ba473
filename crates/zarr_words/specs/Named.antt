-- What the words of a command give.
use Rattle.std.specs.Prelude.{ℕ, List, [], ◌∷◌, Option, Some, None, bytes_eq, if◌then◌else◌}
use Rattle.std.specs.Borrow.{Bor}
use Rattle.zarr_words.specs.declared.words.Given.{Given}

-- the value of the first entry with this name
abbrev pub value_named : List (Bor (List ℕ) × Bor (List ℕ)) → List ℕ → Option (List ℕ)
value_named [] name = None
value_named (entry ∷ entries) name = if bytes_eq entry.0.now name then Some entry.1.now else value_named entries name

-- the value that was given by this name
abbrev pub value_given : Given → List ℕ → Option (List ℕ)
value_given given name = value_named given.values.items name
