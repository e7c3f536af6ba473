-- A fill value of a type that takes no more memory than any other.
use Rattle.std.specs.Prelude.{ℕ, List, [], ◌∷◌, replicate, unwrap_or}
use Rattle.zarrs_data_type.specs.Kind.{Kind, element_size}
use Rattle.zarrs_data_type.specs.Kind as type

-- its bytes: zeros, none for a text, and for an optional type those of none
abbrev pub blank_bytes : Kind → List ℕ
blank_bytes (type.optional inner) = 0 ∷ []
blank_bytes k = replicate (unwrap_or (element_size k) 0) 0
