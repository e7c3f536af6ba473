-- A value that is present under a condition, taken apart.
use Rattle.std.proofs.Common.{◌≡◌, Bool, true, false, cond, List, [], ◌∷◌, length, map, get_or, ◌<◌, ℕ, suc, Option}
use Rattle.std.proofs.Common.{None, Some, refl, ap, ◌∙◌, arith}
use Rattle.std.specs.Prelude.{is_some, option_and_then, option_map}

pub some_is : {A : Type 0} {x y : A} → Some x ≡ Some y → x ≡ y
some_is e = cc

pub only_parts : {A : Type 0} (b : Bool) (o : Option A) (y : A) → cond b o None ≡ Some y → (b ≡ true) × (o ≡ Some y)
only_parts true o y is = (refl, is)
only_parts false o y is = cc

pub bind_parts : {A B : Type 0} (o : Option A) (f : A → Option B) (y : B) → option_and_then f o ≡ Some y → (x : A) × (o ≡ Some x) × (f x ≡ Some y)
bind_parts None f y is = cc
bind_parts (Some x) f y is = (x, refl, is)

pub map_parts : {A B : Type 0} (f : A → B) (o : Option A) (y : B) → option_map f o ≡ Some y → (x : A) × (o ≡ Some x) × (f x ≡ y)
map_parts f None y is = cc
map_parts f (Some x) y is = (x, refl, some_is is)

pub map_same : {X : Type 0} (f : X → X) (xs : List X) → ((k : ℕ) (d : X) → k < length xs → f (get_or xs k d) ≡ get_or xs k d) → map f xs ≡ xs
map_same f [] each = refl
map_same f (x ∷ xs) each = ap (λ y. y ∷ map f xs) (each 0 x (omega arith)) ∙ ap (λ l. x ∷ l) (map_same f xs (λ k d lt. each (suc k) d (omega arith)))

pub chosen_size : {A : Type 0} (o : Option A) → is_some o ≡ true → (size : A) × (o ≡ Some size)
chosen_size None is = cc
chosen_size (Some size) is = (size, refl)

pub not_some : {A : Type 0} (o : Option A) → is_some o ≡ false → o ≡ None
not_some None is = refl
not_some (Some size) is = cc
