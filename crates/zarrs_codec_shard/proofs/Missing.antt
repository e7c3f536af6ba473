-- What is known of values that may be missing.
use Rattle.std.proofs.Common.{◌≡◌, ℕ, zero, suc, ◌<◌, Bool, true, false, List, [], ◌∷◌, ◌++◌, length, get_or, Option, None, Some, refl, sym, ap, ◌∙◌, arith}
use Rattle.std.specs.Prelude.{option_map}
use Rattle.zarrs_data_type.specs.Kind.{Kind}
use Rattle.zarrs_data_type.specs.Cell.{Cell, are_values, values_only}
use Rattle.zarrs_metadata_parts.specs.Extension.{◌>>=◌}
use Rattle.zarrs_codec_shard.specs.Steps.{given_if, all_present}
use Rattle.zarrs_data_type_bytes.proofs.FixedSizes.{some_is}

pub bind_parts : {A B : Type 0} (o : Option A) (f : A → Option B) (y : B) → (o >>= f) ≡ Some y → (x : A) × (o ≡ Some x) × (f x ≡ Some y)
bind_parts None f y is = cc
bind_parts (Some x) f y is = (x, refl, is)

pub given_if-parts : {A : Type 0} (b : Bool) (o : Option A) (y : A) → given_if b o ≡ Some y → (b ≡ true) × (o ≡ Some y)
given_if-parts true o y is = (refl, is)
given_if-parts false o y is = cc

pub given_if-true : {A : Type 0} (b : Bool) (o : Option A) → b ≡ true → given_if b o ≡ o
given_if-true b o is = ap (λ x. given_if x o) is

pub given_if-false : {A : Type 0} (b : Bool) (o : Option A) → b ≡ false → given_if b o ≡ None
given_if-false b o is = ap (λ x. given_if x o) is

pub values_only_parts : (k : Kind) (cs ds : List Cell) → values_only k cs ≡ Some ds → (are_values k ds ≡ true) × (cs ≡ ds)
values_only_parts k cs ds is =
    let p = given_if-parts (are_values k cs) (Some cs) ds is in
    let e = some_is p.1 in
    (ap (are_values k) (sym e) ∙ p.0, e)

pub all_present-cons : {X : Type 0} (o : Option X) (os : List (Option X)) (x : X) (xs : List X) → o ≡ Some x → all_present os ≡ Some xs → all_present (o ∷ os) ≡ Some (x ∷ xs)
all_present-cons o os x xs is rest = ap (λ p. all_present (p ∷ os)) is ∙ ap (option_map (λ ys. x ∷ ys)) rest

-- the parts of a list of values none of which is missing
pub record IsParted {X : Type 0} (o : Option X) (os : List (Option X)) (ys : List X) : Type 0 where
  pub head : X
  pub tail : List X
  pub head_is : o ≡ Some head
  pub tail_is : all_present os ≡ Some tail
  pub whole : ys ≡ head ∷ tail

parted_tail : {X : Type 0} (x : X) (os : List (Option X)) (r : Option (List X)) (ys : List X) → all_present os ≡ r → option_map (λ xs. x ∷ xs) r ≡ Some ys → IsParted (Some x) os ys
parted_tail x os None ys is made = cc
parted_tail x os (Some xs) ys is made = record { head = x; tail = xs; head_is = refl; tail_is = is; whole = sym (some_is made) }

pub all_present-parts : {X : Type 0} (o : Option X) (os : List (Option X)) (ys : List X) → all_present (o ∷ os) ≡ Some ys → IsParted o os ys
all_present-parts None os ys made = cc
all_present-parts (Some x) os ys made = parted_tail x os (all_present os) ys refl made

pub length-all_present : {X : Type 0} (os : List (Option X)) (ys : List X) → all_present os ≡ Some ys → length ys ≡ length os
length-all_present [] ys made = ap length (sym (some_is made))
length-all_present (o ∷ os) ys made =
    let p = all_present-parts o os ys made in ap length p.whole ∙ ap suc (length-all_present os p.tail p.tail_is)

-- each of them
pub all_present-at : {X : Type 0} (os : List (Option X)) (ys : List X) (k : ℕ) (d : Option X) (e : X) → all_present os ≡ Some ys → k < length os → get_or os k d ≡ Some (get_or ys k e)
all_present-at [] ys k d e made lt = absurd (omega arith)
all_present-at (o ∷ os) ys zero d e made lt =
    let p = all_present-parts o os ys made in p.head_is ∙ ap (λ l. Some (get_or l 0 e)) (sym p.whole)
all_present-at (o ∷ os) ys (suc k) d e made lt =
    let p = all_present-parts o os ys made in all_present-at os p.tail k d e p.tail_is (omega arith) ∙ ap (λ l. Some (get_or l (suc k) e)) (sym p.whole)

-- they are there where each of them is
pub all_present-from : {X : Type 0} (os : List (Option X)) (ys : List X) → length ys ≡ length os → ((k : ℕ) (d : Option X) (e : X) → k < length os → get_or os k d ≡ Some (get_or ys k e)) → all_present os ≡ Some ys
all_present-from [] [] len each = refl
all_present-from [] (y ∷ ys) len each = absurd (omega arith)
all_present-from (o ∷ os) [] len each = absurd (omega arith)
all_present-from (o ∷ os) (y ∷ ys) len each =
    all_present-cons o os y ys (each 0 None y (omega arith)) (all_present-from os ys (omega arith) (λ k d e lt. each (suc k) d e (omega arith)))

-- one that is missing
pub all_present-none : {X : Type 0} (os : List (Option X)) (k : ℕ) (d : Option X) → k < length os → get_or os k d ≡ None → all_present os ≡ None
all_present-none [] k d lt is = absurd (omega arith)
all_present-none (o ∷ os) zero d lt is = ap (λ p. all_present (p ∷ os)) is
all_present-none (None ∷ os) (suc k) d lt is = refl
all_present-none (Some x ∷ os) (suc k) d lt is = ap (option_map (λ xs. x ∷ xs)) (all_present-none os k d (omega arith) is)

-- one more at the end
pub all_present-more : {X : Type 0} (os : List (Option X)) (xs : List X) (o : Option X) (x : X) → all_present os ≡ Some xs → o ≡ Some x → all_present (os ++ o ∷ []) ≡ Some (xs ++ x ∷ [])
all_present-more [] xs o x made is = ap (λ p. all_present (p ∷ [])) is ∙ ap (λ l. Some (l ++ x ∷ [])) (some_is made)
all_present-more (p ∷ os) xs o x made is =
    let q = all_present-parts p os xs made in
    all_present-cons p (os ++ o ∷ []) q.head (q.tail ++ x ∷ []) q.head_is (all_present-more os q.tail o x q.tail_is is)
    ∙ ap (λ l. Some (l ++ x ∷ [])) (sym q.whole)
