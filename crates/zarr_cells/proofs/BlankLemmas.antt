-- Blanks before a row.
use Rattle.std.proofs.Common.{◌≡◌, ℕ, suc, ◌+◌, Bool, true, false, eqb, List, [], ◌∷◌, ◌++◌, length, Option, Some, None, MatchBool, refl, sym, ap, ◌∙◌, arith}
use Rattle.std.specs.Prelude.{IfSome}
use Rattle.std.specs.List.{prefix_len}
use Rattle.std.specs.Char.{is_ascii_whitespace}
use Rattle.std.specs.Str.{IsTrimAsciiStart}
use Rattle.std.specs.Io.BufRead.{take_through, drop_through, DropsThrough}
use Rattle.std.proofs.lemmas.Str.Ascii.{trim_ascii_start_is}
use Rattle.std.proofs.lemmas.List.{nil_from_length}
use Rattle.std.proofs.lemmas.Bool.{eqb-true, false≢true}
use Rattle.zarr_cells.specs.Lines.{trim_front, trim_back, trimmed, opening, entered, PassesBlanks, ReadsToken}

-- ---- what stands behind the blanks

pub front_is : (text rest : List ℕ) → IsTrimAsciiStart text rest → rest ≡ trim_front text
front_is text rest trims = trim_ascii_start_is text rest trims

front_blank : (c : ℕ) (text : List ℕ) → is_ascii_whitespace c ≡ true → trim_front (c ∷ text) ≡ trim_front text
front_blank c text is = let more : 1 + prefix_len is_ascii_whitespace text ≡ suc (prefix_len is_ascii_whitespace text) = omega arith in rw (is, more) refl

front_solid : (c : ℕ) (text : List ℕ) → is_ascii_whitespace c ≡ false → trim_front (c ∷ text) ≡ c ∷ text
front_solid c text is = rw is refl

again_step : (c : ℕ) (text : List ℕ) (blank : Bool) → is_ascii_whitespace c ≡ blank → trim_front (trim_front text) ≡ trim_front text
    → trim_front (trim_front (c ∷ text)) ≡ trim_front (c ∷ text)
again_step c text true is more = ap trim_front (front_blank c text is) ∙ more ∙ sym (front_blank c text is)
again_step c text false is more = ap trim_front (front_solid c text is)

front_again : (text : List ℕ) → trim_front (trim_front text) ≡ trim_front text
front_again [] = refl
front_again (c ∷ text) = again_step c text (is_ascii_whitespace c) refl (front_again text)

behind_step : (c : ℕ) (text more : List ℕ) (blank : Bool) → is_ascii_whitespace c ≡ blank → trim_front (c ∷ text) ≡ []
    → (trim_front text ≡ [] → trim_front (text ++ more) ≡ trim_front more) → trim_front (c ∷ (text ++ more)) ≡ trim_front more
behind_step c text more true is none rest = front_blank c (text ++ more) is ∙ rest (sym (front_blank c text is) ∙ none)
behind_step c text more false is none rest = let no : c ∷ text ≡ [] = sym (front_solid c text is) ∙ none in absurd cc

-- behind a blank text the same is passed over
front_behind : (text more : List ℕ) → trim_front text ≡ [] → trim_front (text ++ more) ≡ trim_front more
front_behind [] more none = refl
front_behind (c ∷ text) more none = behind_step c text more (is_ascii_whitespace c) refl none (front_behind text more)

-- ---- up to a byte

both_step : (byte c : ℕ) (text : List ℕ) (same : Bool) → eqb c byte ≡ same → take_through byte text ++ drop_through byte text ≡ text
    → take_through byte (c ∷ text) ++ drop_through byte (c ∷ text) ≡ c ∷ text
both_step byte c text true at more = rw at refl
both_step byte c text false at more = rw at (ap (λ l. c ∷ l) more)

both_through : (byte : ℕ) (text : List ℕ) → take_through byte text ++ drop_through byte text ≡ text
both_through byte [] = refl
both_through byte (c ∷ text) = both_step byte c text (eqb c byte) refl (both_through byte text)

take_more : (byte c : ℕ) (text : List ℕ) → eqb c byte ≡ false → take_through byte (c ∷ text) ≡ c ∷ take_through byte text
take_more byte c text at = rw at refl

take_end : (byte c : ℕ) (text : List ℕ) → eqb c byte ≡ true → take_through byte (c ∷ text) ≡ c ∷ []
take_end byte c text at = rw at refl

drop_more : (byte c : ℕ) (text : List ℕ) → eqb c byte ≡ false → drop_through byte (c ∷ text) ≡ drop_through byte text
drop_more byte c text at = rw at refl

-- what is read from a text is read from it without its blanks
record IsReadBehind (byte : ℕ) (text : List ℕ) : Type 0 where
  left : drop_through byte text ≡ drop_through byte (trim_front text)
  took : trim_front (take_through byte text) ≡ take_through byte (trim_front text)

solid_took : (byte c : ℕ) (text : List ℕ) (same : Bool) → is_ascii_whitespace c ≡ false → eqb c byte ≡ same
    → trim_front (take_through byte (c ∷ text)) ≡ take_through byte (c ∷ text)
solid_took byte c text true is at = ap trim_front (take_end byte c text at) ∙ front_solid c [] is ∙ sym (take_end byte c text at)
solid_took byte c text false is at = ap trim_front (take_more byte c text at) ∙ front_solid c (take_through byte text) is ∙ sym (take_more byte c text at)

read_step : (byte c : ℕ) (text : List ℕ) (blank same : Bool) → is_ascii_whitespace c ≡ blank → eqb c byte ≡ same → (trim_front (take_through byte (c ∷ text)) ≡ [] → ⊥)
    → ((trim_front (take_through byte text) ≡ [] → ⊥) → IsReadBehind byte text) → IsReadBehind byte (c ∷ text)
read_step byte c text false same is at some more =
    record {
      left = ap (drop_through byte) (sym (front_solid c text is));
      took = solid_took byte c text same is at ∙ ap (take_through byte) (sym (front_solid c text is));
    }
read_step byte c text true true is at some more = absurd (some (ap trim_front (take_end byte c text at) ∙ front_blank c [] is))
read_step byte c text true false is at some more =
    let one : trim_front (take_through byte (c ∷ text)) ≡ trim_front (take_through byte text) =
    ap trim_front (take_more byte c text at) ∙ front_blank c (take_through byte text) is in
    let rest = more (λ none. some (one ∙ none)) in
    record {
      left = drop_more byte c text at ∙ rest.left ∙ ap (drop_through byte) (sym (front_blank c text is));
      took = one ∙ rest.took ∙ ap (take_through byte) (sym (front_blank c text is));
    }

read_behind : (byte : ℕ) (text : List ℕ) → (trim_front (take_through byte text) ≡ [] → ⊥) → IsReadBehind byte text
read_behind byte [] some = absurd (some refl)
read_behind byte (c ∷ text) some = read_step byte c text (is_ascii_whitespace c) (eqb c byte) refl refl some (read_behind byte text)

-- ---- what a reader gave

abbrev Took : ℕ → Option (List ℕ) → List ℕ → Type 0
Took byte old token = IfSome old (λ xs. token ≡ take_through byte xs)

-- blanks were read, or else what stands for a cell
pub piece_read : (byte : ℕ) (old new : Option (List ℕ)) (token : List ℕ) (blank : Bool) → Took byte old token → DropsThrough old new byte → blank ≡ eqb (length (trim_front token)) 0
    → MatchBool blank (PassesBlanks true old new) (ReadsToken true byte old new token)
piece_read byte None new token true took left is = tt
piece_read byte None new token false took left is = tt
piece_read byte (Some text) new token true took left is =
    let none : trim_front (take_through byte text) ≡ [] =
    ap trim_front (sym took) ∙ nil_from_length (trim_front token) (eqb-true (length (trim_front token)) 0 (sym is)) in (
      drop_through byte text,
      left,
      sym (front_behind (take_through byte text) (drop_through byte text) none) ∙ ap trim_front (both_through byte text),
    )
piece_read byte (Some text) new token false took left is =
    let behind = read_behind byte text (λ none. false≢true (is ∙ ap (λ (l : List ℕ). eqb (length l) 0) (ap trim_front took ∙ none))) in (
      left ∙ ap Some behind.left,
      ap trimmed took ∙ ap trim_back (sym (front_again (take_through byte text)) ∙ ap trim_front behind.took),
    )

-- what is written of a row begins with no blank
pub entered_row : (first : Bool) (word more rest : List ℕ) → entered first (((opening first ++ word) ++ more) ++ rest) ≡ ((opening first ++ word) ++ more) ++ rest
entered_row true word more rest = refl
entered_row false word more rest = refl
