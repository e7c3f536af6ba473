-- The additional fields of a document: members under names that the standard does not know.
use Rattle.std.specs.Prelude.{ℕ, List, [], ◌∷◌, Bool, true, false, not, codes, if◌then◌else◌, option_map, option_and_then, unwrap_or}
use Rattle.serde_json.specs.Data.{Data, null, boolean, number, string, array, object, Members, no_members, member, put}
use Rattle.serde_json.specs.Find.{get, as_bool}
use Rattle.zarrs_metadata_parts.specs.Members.{is_named, besides}

-- the value of a field without its flag, and the flag
pub record FieldData : Type 0 where
  pub value : Data
  pub must_understand : Bool

abbrev pub flag_names : List (List ℕ)
flag_names = codes "must_understand" ∷ []

-- an object with `"must_understand": false`
abbrev pub is_unneeded : Data → Bool
is_unneeded d = unwrap_or (option_map not (option_and_then as_bool (get (codes "must_understand") d))) false

abbrev pub without_flag : Data → Data
without_flag null = null
without_flag (boolean b) = boolean b
without_flag (number n) = number n
without_flag (string text) = string text
without_flag (array ds) = array ds
without_flag (object ms) = object (besides flag_names ms)

abbrev pub with_flag : Data → Data
with_flag null = null
with_flag (boolean b) = boolean b
with_flag (number n) = number n
with_flag (string text) = string text
with_flag (array ds) = array ds
with_flag (object ms) = object (put (codes "must_understand") (boolean false) ms)

-- the field that a JSON value reads as
abbrev pub field_of : Data → FieldData
field_of d = if is_unneeded d then record { value = without_flag d; must_understand = false } else record { value = d; must_understand = true }

-- the JSON value of a field
abbrev pub data_of_field : FieldData → Data
data_of_field f = if f.must_understand then f.value else with_flag f.value

-- a field as it is read again: only an object can say that it need not be understood
abbrev pub normal_field : FieldData → FieldData
normal_field f = field_of (data_of_field f)

-- ---- many fields, by name

abbrev pub fields_of : Members → List (List ℕ × FieldData)
fields_of no_members = []
fields_of (member key d ms) = (key, field_of d) ∷ fields_of ms

abbrev pub fields_data : List (List ℕ × FieldData) → Members
fields_data [] = no_members
fields_data (f ∷ fs) = member f.0 (data_of_field f.1) (fields_data fs)

-- fields as they are read again: a field under one of these names is not written
abbrev pub normal_fields : List (List ℕ) → List (List ℕ × FieldData) → List (List ℕ × FieldData)
normal_fields names [] = []
normal_fields names (f ∷ fs) =
    if is_named names f.0 then normal_fields names fs else (f.0, normal_field f.1) ∷ normal_fields names fs
