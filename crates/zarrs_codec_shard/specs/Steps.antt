-- Values that may be missing.
use Rattle.std.specs.Prelude.{Bool, Option, None, Some, List, [], ◌∷◌, option_map, if◌then◌else◌}

-- the value, if the test holds
abbrev pub given_if : {A : Type 0} → Bool → Option A → Option A
given_if b o = if b then o else None

-- the values, if each is present
abbrev pub all_present : {X : Type 0} → List (Option X) → Option (List X)
all_present [] = Some []
all_present (None ∷ os) = None
all_present (Some x ∷ os) = option_map (λ xs. x ∷ xs) (all_present os)
