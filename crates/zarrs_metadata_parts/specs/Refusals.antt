-- Why metadata is refused.
use Rattle.std.specs.Prelude.{◌≡◌, ℕ, List, Option, None, string_bytes}
use Rattle.zarrs_metadata_parts.specs.declared.error.PluginCreateError.{PluginCreateError}
use Rattle.zarrs_metadata_parts.specs.declared.error.PluginCreateError.TheVariants.{Other, OutOfMemory}

-- the refusal with this text, or out of memory
abbrev pub SaysReason : List ℕ → PluginCreateError → Type 0
SaysReason text (Other said) = string_bytes said ≡ text
SaysReason text OutOfMemory = Unit {0}

-- the metadata means nothing of the kind, or out of memory
abbrev pub RefusesMeaning : {A : Type 0} → Option A → PluginCreateError → Type 0
RefusesMeaning meant (Other said) = meant ≡ None
RefusesMeaning meant OutOfMemory = Unit {0}
