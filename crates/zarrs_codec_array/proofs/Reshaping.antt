-- The shape that `reshape` makes.
use Rattle.std.proofs.Common.{◌≡◌, ℕ, ◌+◌, ◌/◌, ◌^◌, ◌<◌, Bool, true, false, cond, eqb, ◌&&◌, ◌||◌, List, [], ◌∷◌}
use Rattle.std.proofs.Common.{◌++◌, length, take, drop, get_or, Option, None, Some, refl, sym, ap, ◌∙◌, arith}
use Rattle.std.specs.Prelude.{nat_lt, not, option_map, option_and_then}
use Rattle.std.specs.List.{list_all, list_any}
use Rattle.std.proofs.lemmas.Bool.{eqb-true, eq-eqb, ne_eqb, lt-ltb, and_parts, and_from, or_parts, false≢true}
use Rattle.std.proofs.lemmas.List.{take_more, drop_more, take-append-drop}
use Rattle.std.proofs.lemmas.List.Folds.{list_any-append}
use Rattle.std.proofs.Math.Nat.{div-le_self}
use Rattle.zarrs_subset.specs.Boxes.{position_count}
use Rattle.zarrs_codec_array.specs.Arrays.{Extent, size, product_of, rest, named_extent, named_shape, extent_left, reshape_shape, names_within, reshaped}
use Rattle.zarrs_codec_array.specs.Gathered.{encoded_shape}
use Rattle.zarrs_codec_array.specs.Extents.{are_distinct, fitting_extent, fitting_shape}

-- the extents are below 2^64
abbrev pub are_small : List ℕ → Bool
are_small ns = list_all (λ n. nat_lt n (2 ^ 64)) ns

one_more : (x : ℕ) (xs : List ℕ) (w t ws ts : Bool) → option_and_then (λ a. option_map (λ more. a ∷ more) (cond (ws && ts) (Some xs) None)) (cond (w && t) (Some x) None) ≡ cond ((w && ws) && (t && ts)) (Some (x ∷ xs)) None
one_more x xs true true true true = refl
one_more x xs true true true false = refl
one_more x xs true true false ts = refl
one_more x xs true false true ts = refl
one_more x xs true false false ts = refl
one_more x xs false t ws ts = refl

-- entry by entry, and all at once
pub fitting_shape-is : (s : List ℕ) (left : ℕ) (es : List Extent) → fitting_shape s left es ≡ cond (list_all (names_within s) es && are_small (named_shape s left es)) (Some (named_shape s left es)) None
fitting_shape-is s left [] = refl
fitting_shape-is s left (e ∷ es) =
    ap (λ o. option_and_then (λ a. option_map (λ more. a ∷ more) o) (fitting_extent s left e)) (fitting_shape-is s left es)
    ∙ one_more (named_extent s left e) (named_shape s left es) (names_within s e) (nat_lt (named_extent s left e) (2 ^ 64)) (list_all (names_within s) es) (are_small (named_shape s left es))

-- ---- whether numbers are distinct

apart_more : (x y : ℕ) (xs : List ℕ) → eqb y x ≡ false → list_any (eqb x) xs ≡ false → list_any (eqb x) (xs ++ y ∷ []) ≡ false
apart_more x y xs apart none =
    let other : eqb x y ≡ false = ne_eqb x y (λ same. false≢true (sym apart ∙ eq-eqb y x (sym same))) in
    list_any-append (eqb x) xs (y ∷ []) ∙ rw (none, other) refl

not_true : (b : Bool) → not b ≡ true → b ≡ false
not_true true e = cc
not_true false e = refl

distinct_push : (xs : List ℕ) (y : ℕ) → are_distinct xs ≡ true → list_any (eqb y) xs ≡ false → are_distinct (xs ++ y ∷ []) ≡ true
distinct_push [] y distinct none = refl
distinct_push (x ∷ xs) y distinct none =
    let d = and_parts (not (list_any (eqb x) xs)) (are_distinct xs) distinct in
    let n = or_parts (eqb y x) (list_any (eqb y) xs) none in
    and_from (not (list_any (eqb x) (xs ++ y ∷ []))) (are_distinct (xs ++ y ∷ []))
    (ap not (apart_more x y xs n.0 (not_true (list_any (eqb x) xs) d.0))) (distinct_push xs y d.1 n.1)

found_later : (x : ℕ) (xs ys : List ℕ) → list_any (eqb x) (xs ++ x ∷ ys) ≡ true
found_later x [] ys = ap (λ b. b || list_any (eqb x) ys) (eq-eqb x x refl)
found_later x (z ∷ xs) ys = go (eqb x z) (found_later x xs ys)
  where
    go : (b : Bool) → list_any (eqb x) (xs ++ x ∷ ys) ≡ true → (b || list_any (eqb x) (xs ++ x ∷ ys)) ≡ true
    go true is = refl
    go false is = is

and_no : (a b : Bool) → b ≡ false → (a && b) ≡ false
and_no true b is_false = is_false
and_no false b is_false = refl

distinct_again : (xs ys : List ℕ) (y : ℕ) → list_any (eqb y) xs ≡ true → are_distinct (xs ++ y ∷ ys) ≡ false
distinct_again [] ys y some = absurd (false≢true some)
distinct_again (x ∷ xs) ys y some = go (eqb y x) (distinct_again xs ys y) refl some
  where
    go : (b : Bool) → (list_any (eqb y) xs ≡ true → are_distinct (xs ++ y ∷ ys) ≡ false) → eqb y x ≡ b → (b || list_any (eqb y) xs) ≡ true → are_distinct ((x ∷ xs) ++ y ∷ ys) ≡ false
    go true again same any =
        let is : y ≡ x = eqb-true y x same in
        ap (λ b. not b && are_distinct (xs ++ y ∷ ys)) (ap (λ z. list_any (eqb x) (xs ++ z ∷ ys)) is ∙ found_later x xs ys)
    go false again other any = and_no (not (list_any (eqb x) (xs ++ y ∷ ys))) (are_distinct (xs ++ y ∷ ys)) (again any)

-- a number that is held already, or a new one
module _ (ns : List ℕ) (i : ℕ) (held added : Bool) (lt : i < length ns) (is_new : added ≡ not held) (is_held : held ≡ list_any (eqb (get_or ns i 0)) (take i ns)) where
  not_new : (b : Bool) → added ≡ b → not b ≡ held
  not_new b is = ap not (sym is ∙ is_new) ∙ twice held
    where
      twice : (b : Bool) → not (not b) ≡ b
      twice true = refl
      twice false = refl

  pub repeated : added ≡ false → false ≡ are_distinct ns
  repeated is_false =
      sym
      (ap are_distinct (sym (take-append-drop i ns) ∙ ap (λ r. take i ns ++ r) (drop_more ns i 0 lt))
      ∙ distinct_again (take i ns) (drop (i + 1) ns) (get_or ns i 0) (sym is_held ∙ sym (not_new false is_false)))

  pub distinct_more : added ≡ true → are_distinct (take i ns) ≡ true → are_distinct (take (i + 1) ns) ≡ true
  distinct_more is_true distinct =
      ap are_distinct (take_more ns i 0 lt) ∙ distinct_push (take i ns) (get_or ns i 0) distinct (sym is_held ∙ sym (not_new true is_true))

-- ---- the encoded shape

same_small : (s : List ℕ) (left : ℕ) (es : List Extent) → left < 2 ^ 64 → are_small (named_shape s left es) ≡ are_small (named_shape s 1 es)
same_small s left [] lt = refl
same_small s left (size n ∷ es) lt = ap (λ b. nat_lt n (2 ^ 64) && b) (same_small s left es lt)
same_small s left (product_of ds ∷ es) lt = ap (λ b. nat_lt (named_extent s left (product_of ds)) (2 ^ 64) && b) (same_small s left es lt)
same_small s left (rest ∷ es) lt = ap (λ b. b && are_small (named_shape s left es)) (lt-ltb left (2 ^ 64) lt) ∙ same_small s left es lt

some_of : {A : Type 0} (b : Bool) (x y : A) → Some x ≡ cond b (Some y) None → (b ≡ true) × (x ≡ y)
some_of true x y is = (refl, cc)
some_of false x y is = cc

none_of : {A : Type 0} (b : Bool) (y : A) → None ≡ cond b (Some y) None → b ≡ false
none_of true y is = cc
none_of false y is = refl

module _ (es : List Extent) (s : List ℕ) (below : position_count s < 2 ^ 64) where
  abbrev shape_fits : Bool → Bool → Bool → Option (List ℕ)
  shape_fits a b d = cond (((a && b) && nat_lt (position_count s) (2 ^ 64)) && d) (Some (reshape_shape es s)) None

  never : (a b d : Bool) → (a && b) ≡ false → None ≡ shape_fits a b d
  never a b d is_false = ap (λ x. cond ((x && nat_lt (position_count s) (2 ^ 64)) && d) (Some (reshape_shape es s)) None) (sym is_false)

  unequal : (a b d : Bool) → d ≡ false → None ≡ shape_fits a b d
  unequal a b d is_false = ap (λ x. cond x (Some (reshape_shape es s)) None) (sym (and_no ((a && b) && nat_lt (position_count s) (2 ^ 64)) d is_false))

  always : (a b d : Bool) → (a && b) ≡ true → d ≡ true → Some (reshape_shape es s) ≡ shape_fits a b d
  always a b d is_true same =
      ap (λ x. cond x (Some (reshape_shape es s)) None)
      (sym (and_from ((a && b) && nat_lt (position_count s) (2 ^ 64)) d (and_from (a && b) (nat_lt (position_count s) (2 ^ 64)) is_true (lt-ltb (position_count s) (2 ^ 64) below)) same))

  left_small : extent_left s es < 2 ^ 64
  left_small = let le = div-le_self (position_count s) (position_count (named_shape s 1 es)) in omega arith

  -- an entry that is not there, or too large
  pub unnamed : None ≡ fitting_shape s 1 es → None ≡ encoded_shape (reshaped es) s
  unnamed none =
      never (list_all (names_within s) es) (are_small (reshape_shape es s)) _
      (ap (λ b. list_all (names_within s) es && b) (same_small s (extent_left s es) es left_small)
      ∙ none_of _ (named_shape s 1 es) (none ∙ fitting_shape-is s 1 es))

  pub unmade : (left : ℕ) → left ≡ extent_left s es → None ≡ fitting_shape s left es → None ≡ encoded_shape (reshaped es) s
  unmade left is none =
      never (list_all (names_within s) es) (are_small (reshape_shape es s)) _
      (none_of _ (reshape_shape es s) (none ∙ ap (λ l. fitting_shape s l es) is ∙ fitting_shape-is s (extent_left s es) es))

  -- the extents, with what is left
  module _ (left : ℕ) (is : left ≡ extent_left s es) (made : List ℕ) (fitting : Some made ≡ fitting_shape s left es) where
    parts : ((list_all (names_within s) es && are_small (reshape_shape es s)) ≡ true) × (made ≡ reshape_shape es s)
    parts = some_of _ made (reshape_shape es s) (fitting ∙ ap (λ l. fitting_shape s l es) is ∙ fitting_shape-is s (extent_left s es) es)

    pub same_count : position_count made ≡ position_count s → Some made ≡ encoded_shape (reshaped es) s
    same_count same =
        ap Some parts.1
        ∙ always (list_all (names_within s) es) (are_small (reshape_shape es s)) _ parts.0
        (eq-eqb (position_count (reshape_shape es s)) (position_count s) (sym (ap position_count parts.1) ∙ same))

    pub other_count : (position_count made ≡ position_count s → ⊥) → None ≡ encoded_shape (reshaped es) s
    other_count other =
        unequal (list_all (names_within s) es) (are_small (reshape_shape es s)) _
        (ne_eqb (position_count (reshape_shape es s)) (position_count s) (λ same. other (ap position_count parts.1 ∙ same)))

-- what is left once the other extents are made
pub left-is : (es : List Extent) (s named : List ℕ) (count left : ℕ) → count ≡ position_count s → Some named ≡ fitting_shape s 1 es → left ≡ count / position_count named → left ≡ extent_left s es
left-is es s named count left all fitting is =
    let same = (some_of _ named (named_shape s 1 es) (fitting ∙ fitting_shape-is s 1 es)).1 in
    is ∙ ap (λ n. n / position_count named) all ∙ ap (λ n. position_count s / position_count n) same
