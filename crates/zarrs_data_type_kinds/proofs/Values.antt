-- Values of types.
use Rattle.std.proofs.Common.{◌≡◌, ℕ, Bool, true, false, cond, List, [], ◌∷◌, Option, None, Some, Result, Ok, Err}
use Rattle.std.proofs.Common.{MatchResult, is_ok, refl, sym, ap, ◌∙◌, subst}
use Rattle.std.specs.Prelude.{IsSome, length, max, option_map, unwrap_or}
use Rattle.zarrs_data_type_kinds.proofs.Sizes.{held_size-inner}
use Rattle.zarrs_data_type_kinds.specs.Kind.{Kind, cell_size, is_variable, inner_of}
use Rattle.zarrs_data_type_kinds.specs.Kind as type
use Rattle.zarrs_data_type_kinds.specs.Cell.{Cell, bytes, none, some, is_element, is_value, fill_cell, fill_of, inner_fill, held_size}
use Rattle.std.specs.Str.{is_utf8, IsUtf8, bytes_eq}
use Rattle.std.proofs.lemmas.Str.{IsUtf8-from_is_utf8, is_utf8-from_IsUtf8}
use Rattle.std.proofs.lemmas.Bool.{false_from_ne_true}

-- what `from_utf8` ensures, as a test
pub is_ok-utf8 : {A B : Type 0} (P : A → Type 0) (Q : B → Type 0) (r : Result A B) (b : List ℕ) → MatchResult r (λ s. P s × IsUtf8 b) (λ e. ¬ (IsUtf8 b) × Q e) → is_ok r ≡ is_utf8 b
is_ok-utf8 P Q (Ok s) b h = sym (is_utf8-from_IsUtf8 b h.1)
is_ok-utf8 P Q (Err e) b h = sym (false_from_ne_true (is_utf8 b) (λ is. h.0 (IsUtf8-from_is_utf8 b is)))

unwrapped : (k : Kind) (o : Option Cell) → IsSome o → ((c : Cell) → o ≡ Some c → is_value k c ≡ true) → is_value k (unwrap_or o none) ≡ true
unwrapped k None there value = let nothing : IsSome {T = Cell} None = there in cc
unwrapped k (Some c) there value = value c refl

-- the cell of a fill value is a value of the type
pub fill_cell-value : (k : Kind) (f : List ℕ) (c : Cell) → fill_cell k f ≡ Some c → is_value k c ≡ true
fill_cell-value (type.optional u) f c is = go (λ front d at. fill_cell-value u front d at) (inner_fill f) is
  where
    none_value : (b : Bool) → cond b (Some none) None ≡ Some c → is_value (type.optional u) c ≡ true
    none_value true e = let same : none ≡ c = cc in subst (λ d. is_value (type.optional u) d ≡ true) same refl
    none_value false e = cc

    some_value : (o : Option Cell) → ((d : Cell) → o ≡ Some d → is_value u d ≡ true) → option_map some o ≡ Some c → is_value (type.optional u) c ≡ true
    some_value None below e = cc
    some_value (Some d) below e = let same : some d ≡ c = cc in subst (λ x. is_value (type.optional u) x ≡ true) same (below d refl)

    go : ((front : List ℕ) (d : Cell) → fill_cell u front ≡ Some d → is_value u d ≡ true) → (o : Option (List ℕ)) → elim o [ None ↦ cond (bytes_eq f (0 ∷ [])) (Some none) None | Some front ↦ option_map some (fill_cell u front) ] ≡ Some c → is_value (type.optional u) c ≡ true
    go below None e = none_value (bytes_eq f (0 ∷ [])) e
    go below (Some front) e = some_value (fill_cell u front) (below front) e
fill_cell-value k f c is = element_value (is_element k f) refl is
  where
    element_value : (b : Bool) → is_element k f ≡ b → cond b (Some (bytes f)) None ≡ Some c → is_value k c ≡ true
    element_value true e h = let same : bytes f ≡ c = cc in subst (λ d. is_value k d ≡ true) same e
    element_value false e h = cc

pub fill-value : (k : Kind) (f : List ℕ) → IsSome (fill_cell k f) → is_value k (fill_of k f) ≡ true
fill-value k f there = unwrapped k (fill_cell k f) there (fill_cell-value k f)

variable_inner : (k : Kind) → is_variable k ≡ true → inner_of k ≡ None
variable_inner type.string is = refl
variable_inner type.bytes is = refl
variable_inner k is = cc

plain_fill : (k : Kind) (f : List ℕ) → inner_of k ≡ None → fill_cell k f ≡ cond (is_element k f) (Some (bytes f)) None
plain_fill (type.optional u) f is = cc
plain_fill k f is = refl

cond_fill : (b : Bool) (o : Option Cell) (f : List ℕ) → o ≡ cond b (Some (bytes f)) None → IsSome o → (b ≡ true) × (unwrap_or o none ≡ bytes f)
cond_fill true o f is there = (refl, ap (λ p. unwrap_or p none) is)
cond_fill false o f is there = let nothing : IsSome {T = Cell} None = subst IsSome is there in cc

-- a fill value of string or bytes is a cell of its bytes
pub fill-variable : (k : Kind) (f : List ℕ) → is_variable k ≡ true → IsSome (fill_cell k f) → (is_element k f ≡ true) × (fill_of k f ≡ bytes f)
fill-variable k f is there = cond_fill (is_element k f) (fill_cell k f) f (plain_fill k f (variable_inner k is)) there

optional_kind : (k u : Kind) → inner_of k ≡ Some u → k ≡ type.optional u
optional_kind (type.optional v) u is = let e : v ≡ u = cc in ap type.optional e
optional_kind k u is = cc

-- a fill value that does not end in 1 is none
pub fill-none : (k u : Kind) (f : List ℕ) → inner_of k ≡ Some u → inner_fill f ≡ None → fill_of k f ≡ none
fill-none k u f is_inner front =
    ap (λ j. fill_of j f) (optional_kind k u is_inner)
    ∙ ap (λ o. unwrap_or (elim o [ None ↦ cond (bytes_eq f (0 ∷ [])) (Some none) None | Some p ↦ option_map some (fill_cell u p) ]) none) front
    ∙ go (bytes_eq f (0 ∷ []))
  where
    go : (b : Bool) → unwrap_or (cond b (Some none) None) none ≡ none
    go true = refl
    go false = refl

mapped : (o : Option Cell) → IsSome (option_map some o) → IsSome o × (unwrap_or (option_map some o) none ≡ some (unwrap_or o none))
mapped None there = let nothing : IsSome {T = Cell} None = there in cc
mapped (Some c) there = (refl, refl)

-- one that ends in 1 is some of the cell of the bytes before it
pub fill-some : (k u : Kind) (f front : List ℕ) → inner_of k ≡ Some u → inner_fill f ≡ Some front → IsSome (fill_cell k f)
    → IsSome (fill_cell u front) × (fill_of k f ≡ some (fill_of u front))
fill-some k u f front is_inner is there =
    let made : fill_cell k f ≡ option_map some (fill_cell u front) =
    ap (λ j. fill_cell j f) (optional_kind k u is_inner)
    ∙ ap (λ o. elim o [ None ↦ cond (bytes_eq f (0 ∷ [])) (Some none) None | Some p ↦ option_map some (fill_cell u p) ]) is in
    let both = mapped (fill_cell u front) (subst IsSome made there) in
    (both.0, ap (λ o. unwrap_or o none) made ∙ both.1)

-- the number of bytes that a fill value's cell takes
pub held_size-plain : (k : Kind) (f : List ℕ) → inner_of k ≡ None → IsSome (fill_cell k f) → max (cell_size k) (length f) ≡ held_size k (fill_of k f)
held_size-plain k f plain there = sym (ap (held_size k) (cond_fill (is_element k f) (fill_cell k f) f (plain_fill k f plain) there).1)

pub held_size-none : (u : Kind) (f : List ℕ) → inner_fill f ≡ None → cell_size u ≡ held_size (type.optional u) (fill_of (type.optional u) f)
held_size-none u f front = sym (ap (held_size (type.optional u)) (fill-none (type.optional u) u f refl front))

pub held_size-some : (u : Kind) (f front : List ℕ) → inner_fill f ≡ Some front → IsSome (fill_cell (type.optional u) f)
    → held_size u (fill_of u front) ≡ held_size (type.optional u) (fill_of (type.optional u) f)
held_size-some u f front is there =
    sym (ap (held_size (type.optional u)) (fill-some (type.optional u) u f front refl is there).1 ∙ held_size-inner u (fill_of u front))
