-- A `Map` and the members that it is seen as, and members by name.
use Rattle.std.proofs.Common.{◌≡◌, ℕ, ◌↔◌, List, [], ◌∷◌, length, Some, Ordering, Less, Equal, Greater, string_bytes}
use Rattle.std.proofs.Common.{string_cmp, nat_cmp, is_eq, Bool, true, false, IsTrue, refl, sym, ap, ◌∙◌, subst, arith}
use Rattle.std.proofs.lemmas.Map.Text.{is_eq-slice_cmp}
use Rattle.std.proofs.lemmas.Slice.Eq.{bytes_eq-Decides}
use Rattle.std.specs.Prelude.{is_none}
use Rattle.std.specs.Cmp.Lexicographic.{slice_cmp}
use Rattle.std.specs.List.{AllByRecursion, AllZip}
use Rattle.std.specs.List.Sorted.{IsStrictlySortedBy}
use Rattle.std.specs.Map.{keys_of, remove_entry}
use Rattle.std.specs.Ordering.{match_ordering}
use Rattle.std.specs.BTreeMap.{is_at}
use Rattle.serde_json.specs.Data.{Data, Members, no_members, member}
use Rattle.serde_json.specs.Find.{get_member}
use Rattle.serde_json.specs.View.{view, members_view}
use Rattle.serde_json.proofs.Views.{Entry}
use Rattle.zarrs_metadata_parts.specs.Members.{is_named, besides, has_only, nonempty}

-- ---- a map and its members

pub empty_members : (es : List Entry) (b : Bool) → (IsTrue b ↔ (length es ≡ 0)) → b ≡ is_none (nonempty (members_view es))
empty_members [] true h = refl
empty_members [] false h = let no : IsTrue false = h.1 refl in cc
empty_members (e ∷ es) true h = let none : length (e ∷ es) ≡ 0 = h.0 refl in absurd (omega arith)
empty_members (e ∷ es) false h = refl

pub kept_members : (es : List Entry) (b : Bool) → (IsTrue b ↔ (length es ≡ 0)) → b ≡ false → Some (members_view es) ≡ nonempty (members_view es)
kept_members [] b h e = let yes : IsTrue b = h.1 refl in cc
kept_members (x ∷ es) b h e = refl

pub members_view-clone : (es fs : List Entry) → AllZip (λ p q. (string_bytes q.0 ≡ string_bytes p.0) × (view q.1 ≡ view p.1)) es fs → members_view fs ≡ members_view es
members_view-clone [] [] h = refl
members_view-clone [] (f ∷ fs) h = absurd h
members_view-clone (e ∷ es) [] h = absurd h
members_view-clone (e ∷ es) (f ∷ fs) h = rw (h.0.0, h.0.1, members_view-clone es fs h.1)

-- no key is `name`, if it is below them all
besides_below : (name : List ℕ) (es : List Entry) → AllByRecursion (λ k. slice_cmp nat_cmp name (string_bytes k) ≡ Less) (keys_of es) → besides (name ∷ []) (members_view es) ≡ members_view es
besides_below name [] h = refl
besides_below name (e ∷ es) h = rw (h.0, besides_below name es h.1)

abbrev without_entry : List ℕ → List Entry → List Entry
without_entry name = remove_entry (is_at (λ k. slice_cmp nat_cmp name (string_bytes k)))

same_text : (xs ys : List ℕ) → slice_cmp nat_cmp xs ys ≡ Equal → xs ≡ ys
same_text xs ys e = (bytes_eq-Decides xs ys).0 (sym (is_eq-slice_cmp xs ys) ∙ ap is_eq e)

besides_at : (o : Ordering) (name : List ℕ) (e : Entry) (es : List Entry) → slice_cmp nat_cmp name (string_bytes e.0) ≡ o → AllByRecursion (λ k. string_cmp e.0 k ≡ Less) (keys_of es)
    → members_view (without_entry name es) ≡ besides (name ∷ []) (members_view es) → members_view (without_entry name (e ∷ es)) ≡ besides (name ∷ []) (members_view (e ∷ es))
besides_at Less name e es is above later = rw is (ap (member (string_bytes e.0) (view e.1)) later)
besides_at Greater name e es is above later = rw is (ap (member (string_bytes e.0) (view e.1)) later)
besides_at Equal name e es is above later =
    let below : AllByRecursion (λ k. slice_cmp nat_cmp name (string_bytes k) ≡ Less) (keys_of es) =
    subst (λ n. AllByRecursion (λ k. slice_cmp nat_cmp n (string_bytes k) ≡ Less) (keys_of es)) (sym (same_text _ _ is)) above in
    rw is (sym (besides_below name es below))

-- what is left of a map without the entry of a name
pub members_view-remove_entry : (name : List ℕ) (es : List Entry) → IsStrictlySortedBy string_cmp (keys_of es)
    → members_view (remove_entry (is_at (λ k. slice_cmp nat_cmp name (string_bytes k))) es) ≡ besides (name ∷ []) (members_view es)
unfolding IsStrictlySortedBy
members_view-remove_entry name [] h = refl
members_view-remove_entry name (e ∷ es) h = besides_at _ name e es refl h.0 (members_view-remove_entry name es h.1)

-- ---- members by name

besides_both : (p q : Bool) (names : List (List ℕ)) (name key : List ℕ) (d : Data) (ms : Members) → is_named names key ≡ p → is_eq (slice_cmp nat_cmp name key) ≡ q
    → besides (name ∷ []) (besides names ms) ≡ besides (name ∷ names) ms → besides (name ∷ []) (besides names (member key d ms)) ≡ besides (name ∷ names) (member key d ms)
besides_both true true names name key d ms is at later = rw (is, at) later
besides_both true false names name key d ms is at later = rw (is, at) later
besides_both false true names name key d ms is at later = rw (is, at) later
besides_both false false names name key d ms is at later = rw (is, at) (ap (member key d) later)

-- one name after others
pub besides-besides : (name : List ℕ) (names : List (List ℕ)) (ms : Members) → besides (name ∷ []) (besides names ms) ≡ besides (name ∷ names) ms
besides-besides name names no_members = refl
besides-besides name names (member key d ms) = besides_both _ _ names name key d ms refl refl (besides-besides name names ms)

get_at : (o : Ordering) (p : Bool) (names : List (List ℕ)) (key l : List ℕ) (e : Data) (ms : Members) → slice_cmp nat_cmp key l ≡ o → is_named names l ≡ p → is_named names key ≡ false → get_member key (besides names ms) ≡ get_member key ms
    → get_member key (besides names (member l e ms)) ≡ get_member key (member l e ms)
get_at Less true names key l e ms at is free later = rw (is, at) later
get_at Greater true names key l e ms at is free later = rw (is, at) later
get_at Equal true names key l e ms at is free later =
    let same : is_named names key ≡ is_named names l = ap (is_named names) (same_text key l at) in
    let bad : true ≡ false = sym is ∙ sym same ∙ free in
    cc
get_at o false names key l e ms at is free later = rw is (ap (λ r. match_ordering (slice_cmp nat_cmp key l) r (Some e) r) later)

-- another name keeps its value
pub get_member-besides : (names : List (List ℕ)) (key : List ℕ) (ms : Members) → is_named names key ≡ false → get_member key (besides names ms) ≡ get_member key ms
get_member-besides names key no_members free = refl
get_member-besides names key (member l e ms) free = get_at _ _ names key l e ms refl refl free (get_member-besides names key ms free)

only_at : (p : Bool) (names : List (List ℕ)) (key : List ℕ) (d : Data) (ms : Members) → is_named names key ≡ p → is_none (nonempty (besides names ms)) ≡ has_only names ms
    → is_none (nonempty (besides names (member key d ms))) ≡ has_only names (member key d ms)
only_at true names key d ms is later = rw is later
only_at false names key d ms is later = rw is refl

-- nothing is left beside the names
pub nothing_besides : (names : List (List ℕ)) (ms : Members) → is_none (nonempty (besides names ms)) ≡ has_only names ms
nothing_besides names no_members = refl
nothing_besides names (member key d ms) = only_at _ names key d ms refl (nothing_besides names ms)
