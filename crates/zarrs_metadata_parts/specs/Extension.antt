-- An extension point, and the JSON values that say one.
use Rattle.std.specs.Prelude.{ℕ, List, [], ◌∷◌, Bool, true, false, codes, if◌then◌else◌, Option, Some, None, unwrap_or}
use Rattle.std.specs.Prelude.{option_map, option_and_then, string_bytes}
use Rattle.serde_json.specs.Data.{Data, null, boolean, number, string, array, object, Members, no_members, member}
use Rattle.serde_json.specs.Find.{get_member, as_str, as_bool, as_object}
use Rattle.serde_json.specs.View.{members_view}
use Rattle.zarrs_metadata_parts.specs.Members.{has_only, nonempty}
use Rattle.zarrs_metadata_parts.specs.declared.extension.MetadataV3.{MetadataV3}

-- a name, the members of a configuration, and whether the extension must be understood
pub record ExtensionData : Type 0 where
  pub name : List ℕ
  pub configuration : Option Members
  pub must_understand : Bool

-- the extension point that a value of this type is
abbrev pub extension_view : MetadataV3 → ExtensionData
extension_view m =
    record { name = string_bytes m.name; configuration = option_map (λ c. members_view c.entries) m.configuration; must_understand = m.must_understand }

-- the members of the configuration; an absent one has none
abbrev pub settings : ExtensionData → Members
settings e = unwrap_or e.configuration no_members

-- the value, passed on to the next step if it is present
infixl 10 ◌>>=◌
abbrev pub ◌>>=◌ : {A B : Type 0} → Option A → (A → Option B) → Option B
o >>= f = option_and_then f o

-- a name alone: no configuration, and to be understood
abbrev pub named : List ℕ → ExtensionData
named text = record { name = text; configuration = None; must_understand = true }

-- an extension of this name with one member in its configuration
abbrev pub extension_with_member : List ℕ → List ℕ → Data → ExtensionData
extension_with_member name key d = record { name = name; configuration = Some (member key d no_members); must_understand = true }

-- the one member of a configuration, if it has this name
abbrev pub only_member : List ℕ → Members → Option Data
only_member name ms = if has_only (name ∷ []) ms then get_member name ms else None

-- ---- what a JSON value says

-- an absent configuration is none, and so is an empty one
abbrev pub configuration_from : Option Data → Option (Option Members)
configuration_from None = Some None
configuration_from (Some d) = option_map nonempty (as_object d)

-- an absent flag is true
abbrev pub must_understand_from : Option Data → Option Bool
must_understand_from None = Some true
must_understand_from (Some d) = as_bool d

-- what the object of an extension point may hold
abbrev pub extension_names : List (List ℕ)
extension_names = codes "must_understand" ∷ codes "configuration" ∷ codes "name" ∷ []

-- the three members, each of its shape, if there is no other
abbrev pub extension_from : Option Data → Option Data → Option Data → Bool → Option ExtensionData
extension_from text configuration flag is_all = do
  n ← option_and_then as_str text
  c ← configuration_from configuration
  m ← must_understand_from flag
  if is_all then Some (record { name = n; configuration = c; must_understand = m }) else None

-- the extension point that an object of these members says
abbrev pub extension_of_members : Members → Option ExtensionData
extension_of_members ms =
    extension_from (get_member (codes "name") ms)
    (get_member (codes "configuration") ms) (get_member (codes "must_understand") ms)
    (has_only extension_names ms)

-- the extension point that a JSON value says
abbrev pub extension_of : Data → Option ExtensionData
extension_of (string text) = Some (named text)
extension_of (object ms) = extension_of_members ms
extension_of null = None
extension_of (boolean b) = None
extension_of (number n) = None
extension_of (array ds) = None

-- ---- what is written for one

abbrev pub with_configuration : Option Members → Members → Members
with_configuration None others = others
with_configuration (Some ms) others = member (codes "configuration") (object ms) others

abbrev pub with_must_understand : Bool → Members → Members
with_must_understand true others = others
with_must_understand false others = member (codes "must_understand") (boolean false) others

-- the object; the flag is written only if it is false
abbrev pub object_with : List ℕ → Option Members → Bool → Data
object_with text configuration flag =
    object (with_configuration configuration (with_must_understand flag (member (codes "name") (string text) no_members)))

-- its name alone if that says it all, else an object
abbrev pub data_with : List ℕ → Option Members → Bool → Data
data_with text None true = string text
data_with text None false = object_with text None false
data_with text (Some ms) flag = object_with text (Some ms) flag

-- an empty configuration counts as none
abbrev pub normal : ExtensionData → ExtensionData
normal e = record e { configuration = option_and_then nonempty e.configuration }

-- the JSON value of an extension point
abbrev pub extension_data : ExtensionData → Data
extension_data e = data_with e.name (option_and_then nonempty e.configuration) e.must_understand
