-- Members that are put in, and members by name.
use Rattle.std.proofs.Common.{◌≡◌, ℕ, List, [], ◌∷◌, Option, Some, None, Ordering, Less, Equal, Greater, nat_cmp, is_eq}
use Rattle.std.proofs.Common.{Bool, true, false, if◌then◌else◌, Result, Ok, Err, is_ok, IfOk, refl, sym, ap, ◌∙◌}
use Rattle.std.proofs.lemmas.Bool.{false≢true}
use Rattle.std.proofs.lemmas.Cmp.{nat_list_cmp_total, tied_itself}
use Rattle.std.proofs.lemmas.Map.Text.{is_eq-slice_cmp}
use Rattle.std.proofs.lemmas.Slice.Eq.{bytes_eq-Decides}
use Rattle.std.specs.Cmp.Lexicographic.{slice_cmp}
use Rattle.serde_json.specs.Data.{Data, Members, no_members, member, put}
use Rattle.serde_json.specs.Find.{get_member}
use Rattle.serde_json.specs.View.{view}
use Rattle.serde_json.specs.declared.value.Value.{Value}
use Rattle.serde_json.proofs.Views.{get_member-put, get_member-put_other}
use Rattle.zarrs_metadata_parts.specs.Members.{is_named, besides}
use Rattle.zarrs_metadata_v3.specs.Members.{put_some, put_all}

same_text : (xs ys : List ℕ) → slice_cmp nat_cmp xs ys ≡ Equal → xs ≡ ys
same_text xs ys e = (bytes_eq-Decides xs ys).0 (sym (is_eq-slice_cmp xs ys) ∙ ap is_eq e)

put_at : (o : Ordering) (names : List (List ℕ)) (key l : List ℕ) (d e : Data) (ms : Members) → slice_cmp nat_cmp key l ≡ o → is_named names key ≡ true → besides names (put key d ms) ≡ besides names ms
    → besides names (put key d (member l e ms)) ≡ besides names (member l e ms)
put_at Less names key l d e ms at is later = rw (at, is) refl
put_at Equal names key l d e ms at is later =
    let named : is_named names l ≡ true = sym (ap (is_named names) (same_text key l at)) ∙ is in
    rw at (rw named refl)
put_at Greater names key l d e ms at is later = rw at (ap (λ r. if is_named names l then r else member l e r) later)

-- a member of one of the names does not count
pub besides-put : (names : List (List ℕ)) (key : List ℕ) (d : Data) (ms : Members) → is_named names key ≡ true → besides names (put key d ms) ≡ besides names ms
besides-put names key d no_members is = rw is refl
besides-put names key d (member l e ms) is = put_at _ names key l d e ms refl is (besides-put names key d ms is)

itself : (xs : List ℕ) → slice_cmp nat_cmp xs xs ≡ Equal
itself xs = tied_itself nat_list_cmp_total xs

none_at : (o : Ordering) (p : Bool) (names : List (List ℕ)) (key l : List ℕ) (e : Data) (ms : Members) → slice_cmp nat_cmp key l ≡ o → is_named names l ≡ p → is_named names key ≡ true → get_member key (besides names ms) ≡ None
    → get_member key (besides names (member l e ms)) ≡ None
none_at o true names key l e ms at is named later = rw is later
none_at Less false names key l e ms at is named later = rw (is, at) later
none_at Greater false names key l e ms at is named later = rw (is, at) later
none_at Equal false names key l e ms at is named later =
    let same : is_named names key ≡ is_named names l = ap (is_named names) (same_text key l at) in
    let bad : true ≡ false = sym named ∙ same ∙ is in
    cc

-- a name that is left out is not found
pub get_member-besides_none : (names : List (List ℕ)) (key : List ℕ) (ms : Members) → is_named names key ≡ true → get_member key (besides names ms) ≡ None
get_member-besides_none names key no_members named = refl
get_member-besides_none names key (member l e ms) named = none_at _ _ names key l e ms refl refl named (get_member-besides_none names key ms named)

again_at : (p : Bool) (names : List (List ℕ)) (key : List ℕ) (d : Data) (ms : Members) → is_named names key ≡ p → besides names (besides names ms) ≡ besides names ms → besides names (besides names (member key d ms)) ≡ besides names (member key d ms)
again_at true names key d ms is later = rw is later
again_at false names key d ms is later = rw is (rw is (ap (member key d) later))

pub besides-again : (names : List (List ℕ)) (ms : Members) → besides names (besides names ms) ≡ besides names ms
besides-again names no_members = refl
besides-again names (member key d ms) = again_at _ names key d ms refl (besides-again names ms)

-- ---- many members at once

abbrev either_of : Option Data → Option Data → Option Data
either_of a None = a
either_of None (Some b) = Some b
either_of (Some a) (Some b) = Some a

-- the member of a name among those that are put
abbrev pub find : List ℕ → List (List ℕ × Option Data) → Option Data
find key [] = None
find key (e ∷ es) = if is_eq (slice_cmp nat_cmp key e.0) then either_of e.1 (find key es) else find key es

either_none : (o : Option Data) → o ≡ either_of None o
either_none None = refl
either_none (Some d) = refl

either_some : (d : Data) (o : Option Data) → Some d ≡ either_of (Some d) o
either_some d None = refl
either_some d (Some e) = refl

find_none : (b : Bool) (o : Option Data) → o ≡ (if b then either_of None o else o)
find_none true o = either_none o
find_none false o = refl

find_some : (b : Bool) (key name : List ℕ) (d : Data) (ms : Members) (o : Option Data) → is_eq (slice_cmp nat_cmp key name) ≡ b → get_member key ms ≡ o
    → get_member key (put name d ms) ≡ (if b then either_of (Some d) o else o)
find_some true key name d ms o is e =
    let same : key ≡ name = (bytes_eq-Decides key name).0 (sym (is_eq-slice_cmp key name) ∙ is) in
    ap (λ k. get_member k (put name d ms)) same ∙ get_member-put name d ms ∙ either_some d o
find_some false key name d ms o is e =
    let other = λ (same : key ≡ name). let bad : true ≡ false = sym (ap is_eq (ap (slice_cmp nat_cmp key) (sym same) ∙ itself key)) ∙ is in let no : ⊥ = cc in no in
    get_member-put_other key name d ms other ∙ e

find_at : (o : Option Data) (key name : List ℕ) (ms : Members) (found : Option Data) → get_member key ms ≡ found → get_member key (put_some name o ms) ≡ (if is_eq (slice_cmp nat_cmp key name) then either_of o found else found)
find_at None key name ms found e = e ∙ find_none (is_eq (slice_cmp nat_cmp key name)) found
find_at (Some d) key name ms found e = find_some _ key name d ms found refl e

pub get_member-put_all : (key : List ℕ) (es : List (List ℕ × Option Data)) (ms : Members) → get_member key ms ≡ None → get_member key (put_all es ms) ≡ find key es
get_member-put_all key [] ms none = none
get_member-put_all key (e ∷ es) ms none = find_at e.1 key e.0 (put_all es ms) (find key es) (get_member-put_all key es ms none)

abbrev pub all_named : List (List ℕ) → List (List ℕ × Option Data) → Bool
all_named names [] = true
all_named names (e ∷ es) = if is_named names e.0 then all_named names es else false

besides-put_some : (names : List (List ℕ)) (key : List ℕ) (o : Option Data) (ms : Members) → is_named names key ≡ true → besides names (put_some key o ms) ≡ besides names ms
besides-put_some names key None ms is = refl
besides-put_some names key (Some d) ms is = besides-put names key d ms is

first_named : (a b : Bool) → (if a then b else false) ≡ true → (a ≡ true) × (b ≡ true)
first_named true b e = (refl, e)
first_named false b e = let bad : false ≡ true = e in cc

pub besides-put_all : (names : List (List ℕ)) (es : List (List ℕ × Option Data)) (ms : Members) → all_named names es ≡ true → besides names (put_all es ms) ≡ besides names ms
besides-put_all names [] ms is = refl
besides-put_all names (e ∷ es) ms is =
    let both = first_named (is_named names e.0) (all_named names es) is in
    besides-put_some names e.0 e.1 (put_all es ms) both.0 ∙ besides-put_all names es ms both.1

-- ---- members that were put in

pub put_member_is : (key : List ℕ) (o p : Option Data) (old new : Members) → new ≡ put_some key o old → o ≡ p → new ≡ put_some key p old
put_member_is key o p old new put is = put ∙ ap (λ x. put_some key x old) is

pub put_written_is : {E : Type 0} (r : Result Value E) (key : List ℕ) (d : Data) (old new : Members) → is_ok r ≡ true → IfOk r (λ v. new ≡ put_some key (Some (view v)) old) → IfOk r (λ v. view v ≡ d)
    → new ≡ put_some key (Some d) old
put_written_is (Ok v) key d old new written put is = put_member_is key (Some (view v)) (Some d) old new put (ap Some is)
put_written_is (Err e) key d old new written put is = absurd (false≢true written)
