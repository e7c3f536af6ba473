-- Lists in JSON values.
use Rattle.std.specs.Prelude.{ℕ, ◌==◌, if◌then◌else◌, List, [], ◌∷◌, map, Option, Some, None, option_map, option_and_then}
use Rattle.std.specs.Int.NonZero.{non_zero_u64_get}
use Rattle.std.specs.declared.num.NonZeroU64.{NonZeroU64}
use Rattle.serde_json.specs.Data.{Data, number, unsigned, array, Items, no_items, item}
use Rattle.serde_json.specs.Find.{as_number, as_u64, as_array}
use Rattle.serde_json.specs.View.{items_of}

-- what each item says
abbrev pub all_of : {A : Type 0} → (Data → Option A) → Items → Option (List A)
all_of f no_items = Some []
all_of f (item d ds) = option_and_then (λ a. option_map (λ more. a ∷ more) (all_of f ds)) (f d)

-- the list that a JSON value says, if each item says an element
abbrev pub list_of : {A : Type 0} → (Data → Option A) → Data → Option (List A)
list_of f d = option_and_then (all_of f) (as_array d)

-- the item of a list of one
abbrev pub sole_item : Items → Option Data
sole_item no_items = None
sole_item (item d no_items) = Some d
sole_item (item d (item e ds)) = None

-- the list of what is written for each element
abbrev pub list_data : {A : Type 0} → (A → Data) → List A → Data
list_data f xs = array (items_of (map f xs))

-- a whole number below 2^64
abbrev pub number_of : Data → Option ℕ
number_of d = option_and_then as_u64 (as_number d)

abbrev pub number_data : ℕ → Data
number_data n = number (unsigned n)

-- a list of such numbers
abbrev pub numbers_of : Data → Option (List ℕ)
numbers_of = list_of number_of

abbrev pub numbers_data : List ℕ → Data
numbers_data = list_data number_data

-- a size: a whole number from 1 to 2^64 - 1
abbrev pub size_said : Data → Option ℕ
size_said d = option_and_then (λ n. if n == 0 then None else Some n) (number_of d)

-- sizes as numbers
abbrev pub sizes_of : List NonZeroU64 → List ℕ
sizes_of sizes = map non_zero_u64_get sizes
