-- The members of an object, by name.
use Rattle.std.specs.Prelude.{ℕ, List, [], ◌∷◌, Bool, true, false, ◌&&◌, ◌||◌, if◌then◌else◌, Option, Some, None}
use Rattle.std.specs.Ordering.{nat_cmp, is_eq}
use Rattle.std.specs.Cmp.Lexicographic.{slice_cmp}
use Rattle.serde_json.specs.Data.{Members, no_members, member}

-- whether one of the names is the key
abbrev pub is_named : List (List ℕ) → List ℕ → Bool
is_named [] key = false
is_named (name ∷ names) key = is_eq (slice_cmp nat_cmp name key) || is_named names key

-- whether each member has one of these names
abbrev pub has_only : List (List ℕ) → Members → Bool
has_only names no_members = true
has_only names (member key d ms) = is_named names key && has_only names ms

-- the members that have none of these names
abbrev pub besides : List (List ℕ) → Members → Members
besides names no_members = no_members
besides names (member key d ms) = if is_named names key then besides names ms else member key d (besides names ms)

-- the members, if there is one
abbrev pub nonempty : Members → Option Members
nonempty no_members = None
nonempty (member key d ms) = Some (member key d ms)
