-- The members of a document, read and written by name.
use Rattle.std.specs.Prelude.{ℕ, List, [], ◌∷◌, ◌==◌, Bool, false, bytes_eq, if◌then◌else◌, Option, Some, None, option_map, option_and_then, unwrap_or}
use Rattle.std.specs.Str.{is_utf8}
use Rattle.serde_json.specs.Data.{Data, object, Members, no_members, put}
use Rattle.serde_json.specs.Find.{as_str, as_object}
use Rattle.serde_json.specs.Read.{read}
use Rattle.zarrs_metadata_parts.specs.Members.{nonempty}
use Rattle.zarrs_metadata_parts.specs.Lists.{list_of, number_of}

-- ---- read

-- the JSON value that bytes read as
unfoldable pub value_said : List ℕ → Option Data
value_said bytes = if is_utf8 bytes then read bytes else None

-- the member is this text
abbrev pub reads_as_text : List ℕ → Option Data → Bool
reads_as_text text o = unwrap_or (option_map (λ s. bytes_eq s text) (option_and_then as_str o)) false

-- the member is this number
abbrev pub reads_as_number : ℕ → Option Data → Bool
reads_as_number n o = unwrap_or (option_map (λ m. m == n) (option_and_then number_of o)) false

-- the list of what each item of the member reads as
abbrev pub list_in : {A : Type 0} → (Data → Option A) → Option Data → Option (List A)
list_in f o = option_and_then (list_of f) o

-- the members of an object; an absent object is empty
abbrev pub members_in : Option Data → Option Members
members_in None = Some no_members
members_in (Some d) = as_object d

-- ---- written

-- an object that has a member
abbrev pub object_data : Members → Option Data
object_data ms = option_map object (nonempty ms)

-- with the member, if there is one
abbrev pub put_some : List ℕ → Option Data → Members → Members
put_some key None ms = ms
put_some key (Some d) ms = put key d ms

-- with those of the members that are present, the first one put in last
abbrev pub put_all : List (List ℕ × Option Data) → Members → Members
put_all [] ms = ms
put_all (e ∷ es) ms = put_some e.0 e.1 (put_all es ms)
