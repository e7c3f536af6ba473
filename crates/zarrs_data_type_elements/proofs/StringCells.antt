-- The cells of byte strings and of flags.
use Rattle.std.proofs.Common.{◌≡◌, ℕ, ◌+◌, ◌<◌, Bool, true, false, cond, eqb, List, [], ◌∷◌, ◌++◌, length, take, map}
use Rattle.std.proofs.Common.{get_or, None, Some, ◌&&◌, refl, sym, ap, ◌∙◌, arith}
use Rattle.std.specs.List.{list_all, range_with_len}
use Rattle.std.proofs.lemmas.Bool.{eq-eqb}
use Rattle.std.specs.Str.{is_utf8, IsUtf8}
use Rattle.std.proofs.lemmas.List.{ext_get_or, get_or-map, take_more, map-append}
use Rattle.std.proofs.lemmas.List.Folds.{list_all-map, list_all-append}
use Rattle.std.proofs.lemmas.List.Sums.{AllPass-from_list_all}
use Rattle.std.proofs.lemmas.Simd.{map-map}
use Rattle.std.proofs.lemmas.Str.{IsUtf8-from_is_utf8}
use Rattle.std.proofs.lemmas.List.FromFn.{length-map-range_with_len, get_or-map-range_with_len}
use Rattle.zarrs_data_type_kinds.specs.Kind.{Kind, is_variable}
use Rattle.zarrs_data_type_kinds.specs.Cell.{Cell, bytes, none, is_element, is_value, are_values}
use Rattle.zarrs_data_type_kinds.specs.Same.{kind_eq, kind_eq-Decides}
use Rattle.zarrs_data_type_bytes.specs.ArrayData.{variable}
use Rattle.zarrs_data_type_bytes.specs.Cells.{cells}

length-map : {X Y : Type 0} (f : X → Y) (xs : List X) → length (map f xs) ≡ length xs
length-map f [] = refl
length-map f (x ∷ xs) = let e = length-map f xs in omega arith

-- the cells by number are those of the list
string_cells : (ss : List (List ℕ)) → map (λ i. bytes (get_or ss i [])) (range_with_len 0 (length ss)) ≡ map bytes ss
string_cells ss =
    let f : ℕ → Cell = λ i. bytes (get_or ss i []) in
    ext_get_or none (map f (range_with_len 0 (length ss))) (map bytes ss)
    (length-map-range_with_len f 0 (length ss) ∙ sym (length-map bytes ss))
    (λ i below.
    let here : i < length ss = omega (arith, length-map-range_with_len f 0 (length ss)) in
    get_or-map-range_with_len f 0 (length ss) i i none here (omega arith) ∙ sym (get_or-map bytes ss i [] none here))

-- byte strings are cells if each is an element of the type
pub cells-strings : (k : Kind) (ss : List (List ℕ)) → is_variable k ≡ true → cells k (variable ss) ≡ cond (list_all (λ s. is_element k s) ss) (Some (map bytes ss)) None
cells-strings k ss is =
    let made : List Cell = map (λ i. bytes (get_or ss i [])) (range_with_len 0 (length ss)) in
    ap (λ b. cond ((b && eqb (length ss) (length ss)) && are_values k made) (Some made) None) is
    ∙ ap (λ b. cond (b && are_values k made) (Some made) None) (eq-eqb (length ss) (length ss) refl)
    ∙ ap (λ cs. cond (are_values k cs) (Some cs) None) (string_cells ss)
    ∙ ap (λ b. cond b (Some (map bytes ss)) None) (list_all-map (λ c. is_value k c) bytes ss)

-- what a list of byte strings made of elements stands for
pub cells-made : {X : Type 0} (f : X → List ℕ) (k l : Kind) (xs : List X) (ss : List (List ℕ)) → k ≡ l → is_variable l ≡ true → ss ≡ map f xs → list_all (λ s. is_element l s) ss ≡ true
    → cells k (variable ss) ≡ Some (map (λ x. bytes (f x)) xs)
cells-made f k l xs ss same is made all =
    ap (λ j. cells j (variable ss)) same
    ∙ cells-strings l ss is
    ∙ ap (λ b. cond b (Some (map bytes ss)) None) all
    ∙ ap (λ t. Some (map bytes t)) made
    ∙ ap Some (map-map bytes f xs)

-- the same for elements that were read
pub cells-read : {X : Type 0} (f : X → List ℕ) (k l : Kind) (xs : List X) (ss : List (List ℕ)) → k ≡ l → is_variable l ≡ true → Some (map f xs) ≡ cond (list_all (λ s. is_element l s) ss) (Some ss) None
    → cells k (variable ss) ≡ Some (map (λ x. bytes (f x)) xs)
cells-read f k l xs ss same is read = go (list_all (λ s. is_element l s) ss) refl read
  where
    go : (b : Bool) → list_all (λ s. is_element l s) ss ≡ b → Some (map f xs) ≡ cond b (Some ss) None → cells k (variable ss) ≡ Some (map (λ x. bytes (f x)) xs)
    go true all e = let made : map f xs ≡ ss = cc in cells-made f k l xs ss same is (sym made) all
    go false all e = cc

-- and for some that could not be read
pub cells-unread : (k l : Kind) (ss : List (List ℕ)) → k ≡ l → is_variable l ≡ true → None ≡ cond (list_all (λ s. is_element l s) ss) (Some ss) None → cells k (variable ss) ≡ None
cells-unread k l ss same is read = go (list_all (λ s. is_element l s) ss) refl read
  where
    go : (b : Bool) → list_all (λ s. is_element l s) ss ≡ b → None ≡ cond b (Some ss) None → cells k (variable ss) ≡ None
    go true all e = cc
    go false all e = ap (λ j. cells j (variable ss)) same ∙ cells-strings l ss is ∙ ap (λ b. cond b (Some (map bytes ss)) None) all

pub all_true : (ss : List (List ℕ)) → list_all (λ s. true) ss ≡ true
all_true [] = refl
all_true (s ∷ ss) = all_true ss

-- ---- steps of loops

-- one more element was written
pub written_more : {X : Type 0} (f : X → List ℕ) (xs : List X) (i : ℕ) (x : X) (old new : List (List ℕ)) (s : List ℕ) → i < length xs → x ≡ get_or xs i x → old ≡ map f (take i xs) → s ≡ f x → new ≡ old ++ s ∷ []
    → new ≡ map f (take (i + 1) xs)
written_more f xs i x old new s below item kept same pushed =
    pushed
    ∙ ap (λ o. o ++ s ∷ []) kept
    ∙ ap (λ t. map f (take i xs) ++ t ∷ []) (same ∙ ap f item)
    ∙ sym (ap (map f) (take_more xs i x below) ∙ map-append f (take i xs) (get_or xs i x ∷ []))

pub all_more : (p : List ℕ → Bool) (old new : List (List ℕ)) (s : List ℕ) → list_all p old ≡ true → p s ≡ true → new ≡ old ++ s ∷ [] → list_all p new ≡ true
all_more p old new s kept here pushed =
    ap (list_all p) pushed ∙ list_all-append p old (s ∷ []) ∙ ap (λ b. b && (p s && true)) kept ∙ ap (λ b. b && true) here

-- one more was read
pub read_more : {X : Type 0} (f : X → List ℕ) (ss : List (List ℕ)) (i : ℕ) (x : X) (old new : List X) → i < length ss → map f old ≡ take i ss → f x ≡ get_or ss i [] → new ≡ old ++ x ∷ []
    → map f new ≡ take (i + 1) ss
read_more f ss i x old new below kept same pushed =
    ap (map f) pushed ∙ map-append f old (x ∷ []) ∙ ap (λ t. t ++ f x ∷ []) kept ∙ ap (λ s. take i ss ++ s ∷ []) same ∙ sym (take_more ss i [] below)

pub all_take_more : (p : List ℕ → Bool) (ss : List (List ℕ)) (i : ℕ) → i < length ss → list_all p (take i ss) ≡ true → p (get_or ss i []) ≡ true → list_all p (take (i + 1) ss) ≡ true
all_take_more p ss i below kept here = all_more p (take i ss) (take (i + 1) ss) (get_or ss i []) kept here (take_more ss i [] below)

-- one byte string is no text
pub not_all_texts : (ss : List (List ℕ)) (i : ℕ) (s : List ℕ) → i < length ss → s ≡ get_or ss i [] → ¬ (IsUtf8 s) → None ≡ cond (list_all (λ t. is_utf8 t) ss) (Some ss) None
not_all_texts ss i s below item other = go (list_all (λ t. is_utf8 t) ss) refl
  where
    go : (b : Bool) → list_all (λ t. is_utf8 t) ss ≡ b → None ≡ cond b (Some ss) None
    go true all =
        let text : is_utf8 (get_or ss i []) ≡ true = AllPass-from_list_all (λ t. is_utf8 t) ss all i [] below in
        absurd (other (IsUtf8-from_is_utf8 s (ap is_utf8 item ∙ text)))
    go false all = refl

pub kind_is : (k l : Kind) → kind_eq k l ≡ true → k ≡ l
kind_is k l is = (kind_eq-Decides k l).0 is
