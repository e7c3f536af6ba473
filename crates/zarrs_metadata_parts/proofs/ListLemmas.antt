-- Reading and writing lists, item by item.
use Rattle.std.proofs.Common.{◌≡◌, ℕ, ◌+◌, ◌<◌, ◌≤◌, List, [], ◌∷◌, ◌++◌, length, get_or, take, drop, map, Option, Some, None, option_map, option_and_then, Vec, Global, refl, sym, ap, ◌∙◌, arith}
use Rattle.std.specs.Int.NonZero.{non_zero_u64_get}
use Rattle.std.specs.declared.num.NonZeroU64.{NonZeroU64}
use Rattle.std.proofs.lemmas.Bool.{ne_eqb}
use Rattle.std.proofs.lemmas.List.{append-nil, at_drop_more, drop_all, map-append, take_all, take_more}
use Rattle.std.proofs.lemmas.Simd.{map-map}
use Rattle.serde_json.specs.Data.{Data, array}
use Rattle.serde_json.specs.Find.{as_array}
use Rattle.serde_json.specs.View.{view, items_of, items_view}
use Rattle.serde_json.specs.declared.value.Value.{Value, Array}
use Rattle.serde_json.proofs.Views.{view-Array}
use Rattle.zarrs_metadata_parts.specs.Lists.{all_of, list_of, list_data, number_data, numbers_of, numbers_data, size_said, sizes_of, sole_item}

pub map_same : {A : Type 0} (xs : List A) → map (λ x. x) xs ≡ xs
map_same [] = refl
map_same (x ∷ xs) = ap (λ r. x ∷ r) (map_same xs)

-- what is written reads as what it is to be
pub all_of-items_of : {A B : Type 0} (f : Data → Option B) (g : A → Data) (h : A → B) → ((a : A) → f (g a) ≡ Some (h a)) → (xs : List A) → all_of f (items_of (map g xs)) ≡ Some (map h xs)
all_of-items_of f g h each [] = refl
all_of-items_of f g h each (x ∷ xs) = rw (each x, all_of-items_of f g h each xs) refl

-- the numbers that are written are read again
pub numbers_of-numbers_data : (numbers : List ℕ) → numbers_of (numbers_data numbers) ≡ Some numbers
numbers_of-numbers_data numbers = all_of-items_of _ number_data (λ n. n) (λ n. refl) numbers ∙ ap Some (map_same numbers)

-- sizes that are written are read again
pub size_back : (size : NonZeroU64) → size_said (number_data size.value) ≡ Some size.value
size_back size = let some = size.ok in rw (ne_eqb size.value 0 (λ z. absurd (omega arith))) refl

pub sizes_back : (sizes : List NonZeroU64) → list_of size_said (numbers_data (sizes_of sizes)) ≡ Some (sizes_of sizes)
sizes_back sizes =
    ap (λ (ds : List Data). all_of size_said (items_of ds)) (map-map number_data non_zero_u64_get sizes)
    ∙ all_of-items_of size_said (λ (size : NonZeroU64). number_data size.value) non_zero_u64_get size_back sizes

-- the value of a list, once what stands for each element is written
pub list_written : {A B : Type 0} (f : B → Data) (h : List A → List B) (xs : List A) (n : ℕ) (values : Vec Value Global) → length xs ≤ n
    → map view values.items ≡ map f (h (take n xs)) → view (Array values) ≡ list_data f (h xs)
list_written f h xs n values whole written = view-Array values ∙ ap (λ ds. array (items_of ds)) (written ∙ ap (λ l. map f (h l)) (take_all n xs whole))

-- one element more is written
pub list_more : {A B : Type 0} (f : B → Data) (h : A → B) (xs : List A) (n : ℕ) (x : A) (old new : List Value) (v : Value) → n < length xs → x ≡ get_or xs n x → new ≡ old ++ v ∷ [] → view v ≡ f (h x)
    → map view old ≡ map f (map h (take n xs)) → map view new ≡ map f (map h (take (n + 1) xs))
list_more f h xs n x old new v below at pushed written before =
    let next : map f (map h (take (n + 1) xs)) ≡ map f (map h (take n xs)) ++ f (h (get_or xs n x)) ∷ [] =
    ap (λ l. map f (map h l)) (take_more xs n x below) ∙ ap (map f) (map-append h (take n xs) (get_or xs n x ∷ [])) ∙ map-append f (map h (take n xs)) (h (get_or xs n x) ∷ []) in
    ap (map view) pushed ∙ map-append view old (v ∷ []) ∙ ap (λ l. l ++ view v ∷ []) before ∙ ap (λ d. map f (map h (take n xs)) ++ d ∷ []) (written ∙ ap (λ y. f (h y)) at) ∙ sym next

-- a list whose items were all read
pub all_read : {A : Type 0} (f : Data → Option A) (d : Data) (items seen : List Value) (n : ℕ) (made : List A) → Some (items_view items) ≡ as_array d → seen ≡ items → length seen ≤ n
    → all_of f (items_view seen) ≡ option_map (λ more. made ++ more) (all_of f (items_view (drop n seen))) → Some made ≡ list_of f d
all_read f d items seen n made is same whole read =
    let end : option_map (λ more. made ++ more) (all_of f (items_view (drop n seen))) ≡ Some made =
    ap (λ vs. option_map (λ more. made ++ more) (all_of f (items_view vs))) (drop_all n seen whole) ∙ ap Some (append-nil made) in
    sym (read ∙ end) ∙ ap (λ vs. all_of f (items_view vs)) same ∙ ap (option_and_then (all_of f)) is

-- a list of which an item was not read
pub none_read : {A : Type 0} (f : Data → Option A) (d : Data) (items seen : List Value) (n : ℕ) (v : Value) (made : List A) → Some (items_view items) ≡ as_array d → seen ≡ items → n < length seen → v ≡ get_or seen n v
    → None ≡ f (view v) → all_of f (items_view seen) ≡ option_map (λ more. made ++ more) (all_of f (items_view (drop n seen))) → None ≡ list_of f d
none_read f d items seen n v made is same below at none read =
    let head : f (view (get_or seen n v)) ≡ None = sym (none ∙ ap (λ w. f (view w)) at) in
    let end : option_map (λ more. made ++ more) (all_of f (items_view (drop n seen))) ≡ None =
    at_drop_more (λ vs. option_map (λ more. made ++ more) (all_of f (items_view vs))) seen n v below ∙ rw head refl in
    sym (read ∙ end) ∙ ap (λ vs. all_of f (items_view vs)) same ∙ ap (option_and_then (all_of f)) is

-- a list of another length than 1 has no sole item
pub sole_item-other : (vs : List Value) → (length vs ≡ 1 → ⊥) → None ≡ sole_item (items_view vs)
sole_item-other [] other = refl
sole_item-other (v ∷ []) other = absurd (other refl)
sole_item-other (v ∷ w ∷ vs) other = refl
