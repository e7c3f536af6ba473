-- Options of values as bytes, and flags.
use Rattle.std.specs.Prelude.{ℕ, List, Option, None, Some, is_some, replicate}
use Rattle.std.specs.Int.{from_bool}

-- the bytes of an option: those of its value, or for none as many zeros
abbrev pub option_bytes : {V : Type 0} → ℕ → (V → List ℕ) → Option V → List ℕ
option_bytes size bytes None = replicate size 0
option_bytes size bytes (Some v) = bytes v

-- the flag of an option: 1 for some and 0 for none
abbrev pub option_flag : {V : Type 0} → Option V → ℕ
option_flag option = from_bool (is_some option)
