-- Printing item by item.
use Rattle.std.proofs.Common.{◌≡◌, ℕ, ◌+◌, ◌<◌, List, [], ◌∷◌, ◌++◌, length, take, get_or, Option, Some, None, refl}
use Rattle.std.proofs.Common.{sym, ap, subst, ◌∙◌, append_assoc, arith}
use Rattle.std.specs.Io.KnownBytes.{Appends}
use Rattle.std.specs.List.{flat_map}
use Rattle.std.proofs.lemmas.List.{append-nil, take_more}
use Rattle.std.proofs.lemmas.Grind.{flat_map-append}
use Rattle.zarrs_storage.specs.Store.{Values}
use Rattle.zarrs_script.specs.Transcript.{lines_of_keys, key_text}
use Rattle.zarrs_script.specs.Sessions.{Puts}

-- what is written in two parts
pub appends_more : (old mid new : Option (List ℕ)) (xs ys : List ℕ) → Appends old mid xs → Appends mid new ys → Appends old new (xs ++ ys)
appends_more None mid new xs ys a b = tt
appends_more (Some o) None new xs ys a b = absurd a
appends_more (Some o) (Some m) None xs ys a b = absurd b
appends_more (Some o) (Some m) (Some n) xs ys a b = b ∙ ap (λ (zs : List ℕ). zs ++ ys) a ∙ append_assoc o xs ys

pub appends_nothing : (old : Option (List ℕ)) → Appends old old []
appends_nothing None = tt
appends_nothing (Some o) = sym (append-nil o)

-- a text that is pending as a whole
pub puts_pending : {P : List ℕ → Type 0} (old : Option (List ℕ)) (pending left text : List ℕ) → left ≡ pending ++ text → P text → Puts old old pending left P
puts_pending old pending left text is such = (text, [], appends_nothing old, sym is, such)

-- what is known of a text gives more
pub puts_as : {P Q : List ℕ → Type 0} (old new : Option (List ℕ)) (pending left : List ℕ) → ((text : List ℕ) → P text → Q text) → Puts old new pending left P → Puts old new pending left Q
puts_as old new pending left f a = (a.0, a.1, a.2, a.3, f a.0 a.4)

-- one text after another
pub puts_more : {P Q R : List ℕ → Type 0} (old mid new : Option (List ℕ)) (pending between left : List ℕ) → Puts old mid pending between P → Puts mid new between left Q
    → ((first second : List ℕ) → P first → Q second → R (first ++ second)) → Puts old new pending left R
puts_more old mid new pending between left a b join = (
  a.0 ++ b.0,
  a.1 ++ b.1,
  appends_more old mid new a.1 b.1 a.2 b.2,
  sym (append_assoc pending a.0 b.0) ∙ ap (λ (xs : List ℕ). xs ++ b.0) a.3 ∙ append_assoc a.1 between b.0 ∙ ap (λ (xs : List ℕ). a.1 ++ xs) b.3 ∙ sym (append_assoc a.1 b.1 left),
  join a.0 b.0 a.4 b.4,
)

-- nothing more than some of it written
pub puts_spilled : {P : List ℕ → Type 0} (old mid new : Option (List ℕ)) (pending between left : List ℕ) → Puts old mid pending between P → Puts mid new between left (λ text. text ≡ []) → Puts old new pending left P
puts_spilled {P} old mid new pending between left a b =
    puts_more old mid new pending between left a b (λ first second p e. subst P (sym (ap (λ (xs : List ℕ). first ++ xs) e ∙ append-nil first)) p)

-- all of it is written
pub all_written : {P : List ℕ → Type 0} (old mid new : Option (List ℕ)) (left : List ℕ) → Puts old mid [] left P → Appends mid new left → (text : List ℕ) × Appends old new text × P text
all_written {P} old mid new left a b = (a.1 ++ left, appends_more old mid new a.1 left a.2 b, subst P a.3 a.4)

pub lines_of_keys_is : (values : Values) (keys : List (List ℕ)) → 0 < length keys → lines_of_keys values keys ≡ flat_map (key_text values) keys
lines_of_keys_is values [] h = absurd (omega arith)
lines_of_keys_is values (key ∷ keys) h = refl

-- one more of the keys
pub one_key : (f : List ℕ → List ℕ) (keys : List (List ℕ)) (k : ℕ) (key : List ℕ) → k < length keys → key ≡ get_or keys k key → flat_map f (take k keys) ++ f key ≡ flat_map f (take (k + 1) keys)
one_key f keys k key lt is =
    ap (λ (xs : List ℕ). flat_map f (take k keys) ++ xs) (ap f is ∙ sym (append-nil (f (get_or keys k key))))
    ∙ sym (flat_map-append f (take k keys) (get_or keys k key ∷ [])) ∙ ap (flat_map f) (sym (take_more keys k key lt))
