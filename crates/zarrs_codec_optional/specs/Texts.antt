-- Members of a configuration that are texts.
use Rattle.std.specs.Prelude.{ℕ, List, Bool, true, false, Option, Some, None, option_and_then}
use Rattle.std.specs.Str.{bytes_eq}
use Rattle.serde_json.specs.Data.{Data}
use Rattle.serde_json.specs.Find.{as_str}

-- whether the value is present and passes the test
abbrev pub passes : {A : Type 0} → (A → Bool) → Option A → Bool
passes test None = false
passes test (Some a) = test a

-- whether a member is this text
abbrev pub is_text : List ℕ → Option Data → Bool
is_text text value = passes (λ t. bytes_eq t text) (option_and_then as_str value)

-- whether a member is this text or absent
abbrev pub is_text_or_absent : List ℕ → Option Data → Bool
is_text_or_absent text None = true
is_text_or_absent text (Some value) = is_text text (Some value)
