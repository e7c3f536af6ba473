-- The separator between the parts of a chunk key.
use Rattle.std.specs.Prelude.{ℕ, List, [], ◌∷◌, codes, if◌then◌else◌, Option, Some, None, option_and_then}
use Rattle.std.specs.Str.{bytes_eq}
use Rattle.serde_json.specs.Data.{Data, string}
use Rattle.serde_json.specs.Find.{as_str}
use Rattle.zarrs_metadata_parts.specs.declared.separators.ChunkKeySeparator.{ChunkKeySeparator}
use Rattle.zarrs_metadata_parts.specs.declared.separators.ChunkKeySeparator.TheVariants.{Slash, Dot}

-- the byte of `/` or `.`
abbrev pub separator_byte : ChunkKeySeparator → ℕ
separator_byte Slash = 47
separator_byte Dot = 46

-- the separator of a text
abbrev pub separator_named : List ℕ → Option ChunkKeySeparator
separator_named text = if bytes_eq text (codes "/") then Some Slash else (if bytes_eq text (codes ".") then Some Dot else None)

-- the separator that a JSON value says
abbrev pub separator_of : Data → Option ChunkKeySeparator
separator_of d = option_and_then separator_named (as_str d)

-- the JSON value of a separator
abbrev pub separator_data : ChunkKeySeparator → Data
separator_data s = string (separator_byte s ∷ [])
