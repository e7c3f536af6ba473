-- Cells that are read from the lines that were written of them.
use Rattle.std.proofs.Common.{◌≡◌, ℕ, zero, suc, ◌+◌, ◌-◌, ◌<◌, Bool, true, false, eqb, ltb, leb, ◌&&◌, List, [], ◌∷◌, ◌++◌, length, get_or, take, Option, Some, None, option_map, option_and_then, refl, sym, ap, ◌∙◌, subst, arith, length-append, append_assoc, append-nil, eq-eqb}
use Rattle.std.specs.Prelude.{⊤}
use Rattle.std.specs.Str.{IsTrimAscii}
use Rattle.std.specs.Char.{is_ascii_whitespace}
use Rattle.std.specs.Int.{is_in_range}
use Rattle.std.specs.Io.KnownBytes.{Appends}
use Rattle.std.specs.Io.BufRead.{take_through, drop_through}
use Rattle.std.proofs.lemmas.Str.Ascii.{trim_ascii_is}
use Rattle.std.proofs.lemmas.Bool.{lt-ltb, lt-leb, ne_eqb}
use Rattle.std.proofs.lemmas.List.{get_or_append_left}
use Rattle.std.proofs.Math.Seq.{take-append_seam, get_or-append_seam, take-length}
use Rattle.zarr_cells.specs.declared.form.Form.{Form}
use Rattle.zarr_cells.specs.Numbers.{AreSolid, cell_in}
use Rattle.zarr_cells.specs.Lines.{trimmed, closing, ending, opening, closed, unclosed, unopened, word_in, read_to, is_first, is_last, next, column_after, joined, first_cell, behind, cells_in, WritesCell, WritesCells, ReadsCell, ReadsCells, Extends}
use Rattle.zarr_cells.proofs.BlankLemmas.{entered_row}
use Rattle.zarr_cells.proofs.WordLemmas.{appends_both}

-- ---- words

-- what `trim_ascii` gives
pub trimmed_is : (text rest : List ℕ) → IsTrimAscii text rest → rest ≡ trimmed text
trimmed_is text rest trims = trim_ascii_is text rest _ refl trims

and_false : (b : Bool) → (b && false) ≡ false
and_false true = refl
and_false false = refl

below_range : (low high c : ℕ) → high < c → is_in_range low high c ≡ false
below_range low high c above = rw (lt-leb c high above) (and_false (leb low c))

no_blank : (c : ℕ) → 32 < c → is_ascii_whitespace c ≡ false
no_blank c above = rw (below_range 9 10 c (omega arith), below_range 12 13 c (omega arith), below_range 32 32 c above) refl

-- no blank
abbrev AreTight : List ℕ → Type 0
AreTight [] = ⊤
AreTight (byte ∷ bytes) = (32 < byte) × AreTight bytes

solid_tight : (text : List ℕ) → AreSolid text → AreTight text
solid_tight [] solid = tt
solid_tight (c ∷ text) solid = (solid.0, solid_tight text solid.2)

tight_push : (text : List ℕ) (c : ℕ) → AreTight text → 32 < c → AreTight (text ++ c ∷ [])
tight_push [] c tight above = (above, tt)
tight_push (d ∷ text) c tight above = (tight.0, tight_push text c tight.1 above)

tight_at : (text : List ℕ) (i : ℕ) → AreTight text → i < length text → is_ascii_whitespace (get_or text i 0) ≡ false
tight_at [] i tight lt = absurd (omega arith)
tight_at (c ∷ text) zero tight lt = no_blank c tight.0
tight_at (c ∷ text) (suc i) tight lt = tight_at text i tight.1 (omega arith)

trim_tight : (text : List ℕ) → AreTight text → trimmed text ≡ text
trim_tight text tight =
    sym (trimmed_is text text (
      0,
      sym (take-length text),
      (λ i lt. absurd (omega arith)),
      (λ some. tight_at text 0 tight some),
      (λ i above lt. absurd (omega arith)),
      (λ some. tight_at text (length text - 1) tight (omega arith)),
    ))

trim_line : (text : List ℕ) → 0 < length text → AreTight text → trimmed (text ++ 10 ∷ []) ≡ text
trim_line text some tight =
    let size : length (text ++ 10 ∷ []) ≡ length text + 1 = length-append text (10 ∷ []) in
    sym (trimmed_is (text ++ 10 ∷ []) text (
      0,
      sym (take-append_seam text (10 ∷ [])),
      (λ i lt. absurd (omega arith)),
      (λ _. ap is_ascii_whitespace (get_or_append_left text (10 ∷ []) 0 0 some) ∙ tight_at text 0 tight some),
      (λ i above lt. let end : i ≡ length text = omega (arith, size) in ap (λ k. is_ascii_whitespace (get_or (text ++ 10 ∷ []) k 0)) end ∙ ap is_ascii_whitespace (get_or-append_seam text 10 [] 0)),
      (λ _. let lt : length text - 1 < length text = omega arith in ap is_ascii_whitespace (get_or_append_left text (10 ∷ []) 0 (length text - 1) lt) ∙ tight_at text (length text - 1) tight lt),
    ))

unclosed_at : (body : List ℕ) (close : ℕ) → (ltb 0 (length (body ++ close ∷ [])) ≡ true) × (get_or (body ++ close ∷ []) (length (body ++ close ∷ []) - 1) 0 ≡ close)
    × (take (length (body ++ close ∷ []) - 1) (body ++ close ∷ []) ≡ body)
unclosed_at body close =
    let size : length (body ++ close ∷ []) ≡ length body + 1 = length-append body (close ∷ []) in
    let end : length (body ++ close ∷ []) - 1 ≡ length body = omega (arith, size) in (
      lt-ltb 0 (length (body ++ close ∷ [])) (omega (arith, size)),
      ap (λ k. get_or (body ++ close ∷ []) k 0) end ∙ get_or-append_seam body close [] 0,
      ap (λ k. take k (body ++ close ∷ [])) end ∙ take-append_seam body (close ∷ []),
    )

unclosed_is : (last : Bool) (body : List ℕ) → unclosed last (body ++ closing last ∷ []) ≡ Some body
unclosed_is true body = let is = unclosed_at body 93 in rw (is.0, is.1, is.2) refl
unclosed_is false body = let is = unclosed_at body 44 in rw (is.0, is.1, is.2) refl

unopened_is : (first : Bool) (word : List ℕ) → unopened first (opening first ++ word) ≡ Some word
unopened_is true word = rw (lt-ltb 0 (suc (length word)) (omega arith)) refl
unopened_is false word = refl

opened_solid : (first : Bool) (word : List ℕ) → AreSolid word → AreSolid (opening first ++ word)
opened_solid true word solid = (omega arith, (λ is. omega (arith, is)), solid)
opened_solid false word solid = solid

trim_token : (last : Bool) (body : List ℕ) → AreTight body → trimmed (body ++ closed last) ≡ body ++ closing last ∷ []
trim_token true body tight =
    ap trimmed (sym (append_assoc body (93 ∷ []) (10 ∷ [])))
    ∙ trim_line (body ++ 93 ∷ []) (omega (arith, length-append body (93 ∷ []))) (tight_push body 93 tight (omega arith))
trim_token false body tight = trim_tight (body ++ 44 ∷ []) (tight_push body 44 tight (omega arith))

-- the word is found in what was written of it
word_back : (first last : Bool) (word : List ℕ) → AreSolid word → word_in first last ((opening first ++ word) ++ closed last) ≡ Some word
word_back first last word solid =
    rw (trim_token last (opening first ++ word) (solid_tight (opening first ++ word) (opened_solid first word solid)), unclosed_is last (opening first ++ word), unopened_is first word)
    (ap Some (trim_tight word (solid_tight word solid)))

-- ---- the word of a cell, part by part

abbrev word_of : Bool → Bool → List ℕ → Option (List ℕ)
word_of first last token = option_map trimmed (option_and_then (unopened first) (unclosed last token))

pub word_unclosed : (first last : Bool) (text token : List ℕ) → token ≡ trimmed text → unclosed last token ≡ None → word_in first last text ≡ None
word_unclosed first last text token is none = ap (word_of first last) (sym is) ∙ ap (λ o. option_map trimmed (option_and_then (unopened first) o)) none

pub word_unopened : (first last : Bool) (text token rest : List ℕ) → token ≡ trimmed text → unclosed last token ≡ Some rest → unopened first rest ≡ None
    → word_in first last text ≡ None
word_unopened first last text token rest is some none =
    ap (word_of first last) (sym is) ∙ ap (λ o. option_map trimmed (option_and_then (unopened first) o)) some ∙ ap (option_map trimmed) none

pub word_found : (first last : Bool) (text token rest word found : List ℕ) → token ≡ trimmed text → unclosed last token ≡ Some rest → unopened first rest ≡ Some word
    → found ≡ trimmed word → word_in first last text ≡ Some found
word_found first last text token rest word found is some opens found_is =
    ap (word_of first last) (sym is) ∙ ap (λ o. option_map trimmed (option_and_then (unopened first) o)) some ∙ ap (option_map trimmed) opens
    ∙ ap Some (sym found_is)

-- ---- what is read for a cell

abbrev Without : ℕ → List ℕ → Type 0
Without byte [] = ⊤
Without byte (c ∷ text) = (eqb c byte ≡ false) × Without byte text

take_to : (byte : ℕ) (text more : List ℕ) → Without byte text → take_through byte ((text ++ byte ∷ []) ++ more) ≡ text ++ byte ∷ []
take_to byte [] more none = rw (eq-eqb byte byte refl) refl
take_to byte (c ∷ text) more none = rw none.0 (ap (λ l. c ∷ l) (take_to byte text more none.1))

drop_to : (byte : ℕ) (text more : List ℕ) → Without byte text → drop_through byte ((text ++ byte ∷ []) ++ more) ≡ more
drop_to byte [] more none = rw (eq-eqb byte byte refl) refl
drop_to byte (c ∷ text) more none = rw none.0 (drop_to byte text more none.1)

without_comma : (text : List ℕ) → AreSolid text → Without 44 text
without_comma [] solid = tt
without_comma (c ∷ text) solid = (ne_eqb c 44 solid.1, without_comma text solid.2)

without_line : (text : List ℕ) → AreTight text → Without 10 text
without_line [] tight = tt
without_line (c ∷ text) tight = (ne_eqb c 10 (λ is. omega (arith, tight.0, is)), without_line text tight.1)

taken_back : (last : Bool) (body more : List ℕ) → AreSolid body → take_through (ending last) ((body ++ closed last) ++ more) ≡ body ++ closed last
taken_back true body more solid =
    let one_line : body ++ 93 ∷ 10 ∷ [] ≡ (body ++ 93 ∷ []) ++ 10 ∷ [] = sym (append_assoc body (93 ∷ []) (10 ∷ [])) in
    ap (λ l. take_through 10 (l ++ more)) one_line
    ∙ take_to 10 (body ++ 93 ∷ []) more (without_line (body ++ 93 ∷ []) (tight_push body 93 (solid_tight body solid) (omega arith)))
    ∙ sym one_line
taken_back false body more solid = take_to 44 body more (without_comma body solid)

left_behind : (last : Bool) (body more : List ℕ) → AreSolid body → drop_through (ending last) ((body ++ closed last) ++ more) ≡ more
left_behind true body more solid =
    let one_line : body ++ 93 ∷ 10 ∷ [] ≡ (body ++ 93 ∷ []) ++ 10 ∷ [] = sym (append_assoc body (93 ∷ []) (10 ∷ [])) in
    ap (λ l. drop_through 10 (l ++ more)) one_line
    ∙ drop_to 10 (body ++ 93 ∷ []) more (without_line (body ++ 93 ∷ []) (tight_push body 93 (solid_tight body solid) (omega arith)))
left_behind false body more solid = drop_to 44 body more (without_comma body solid)

-- ---- one cell

pub cell_written : (form : Form) (size width column : ℕ) (word cell : List ℕ) (old opened said new : Option (List ℕ)) → AreSolid word → cell_in form size word ≡ Some cell
    → Appends old opened (opening (is_first column)) → Appends opened said word → Appends said new (closed (is_last width column)) → WritesCell form size width column cell old new
cell_written form size width column word cell old opened said new solid says first second third =
    let body = opening (is_first column) ++ word in
    let is_solid = opened_solid (is_first column) word solid in
    record {
      text = body ++ closed (is_last width column);
      written = appends_both old said new body (closed (is_last width column)) (appends_both old opened said (opening (is_first column)) word first second) third;
      reads = λ more.
          let there = entered_row (is_first column) word (closed (is_last width column)) more in
          let token : read_to (is_first column) (ending (is_last width column)) ((body ++ closed (is_last width column)) ++ more) ≡ body ++ closed (is_last width column) =
          ap (take_through (ending (is_last width column))) there ∙ taken_back (is_last width column) body more is_solid in (
            rw (token, word_back (is_first column) (is_last width column) word solid) says,
            ap (drop_through (ending (is_last width column))) there ∙ left_behind (is_last width column) body more is_solid,
          );
    }

-- ---- many cells

pub column_more : (width column count : ℕ) → column_after width column (suc count) ≡ next width (column_after width column count)
column_more width column zero = refl
column_more width column (suc count) = column_more width (next width column) count

abbrev cells_of : Option (List ℕ × List ℕ) → List ℕ
cells_of None = []
cells_of (Some parts) = parts.0

abbrev left_of : Option (List ℕ × List ℕ) → List ℕ
left_of None = []
left_of (Some parts) = parts.1

abbrev nothing : Option (List ℕ × List ℕ)
nothing = None

joined_parts : (cell : Option (List ℕ)) (others : Option (List ℕ × List ℕ)) (cells left : List ℕ) → joined cell others ≡ Some (cells, left)
    → (one : List ℕ) × (more : List ℕ) × (cell ≡ Some one) × (others ≡ Some (more, left)) × (cells ≡ one ++ more)
joined_parts None others cells left is = let no : nothing ≡ Some (cells, left) = is in absurd cc
joined_parts (Some one) None cells left is = let no : nothing ≡ Some (cells, left) = is in absurd cc
joined_parts (Some one) (Some others) cells left is = (one, others.0, refl, ap (λ l. Some (others.0, l)) (ap left_of is), sym (ap cells_of is))

pub appends_none : (held : Option (List ℕ)) → Appends held held []
appends_none None = tt
appends_none (Some xs) = sym (append-nil xs)

module _ (form : Form) (size width : ℕ) where
  cells_more : (count column : ℕ) (text cells left cell rest : List ℕ) → cells_in form size width count column text ≡ Some (cells, left)
      → first_cell form size width (column_after width column count) left ≡ Some cell → behind form size width (column_after width column count) left ≡ rest
      → cells_in form size width (suc count) column text ≡ Some (cells ++ cell, rest)
  cells_more zero column text cells left cell rest is first after =
      let none : [] ≡ cells = ap cells_of is in
      let all : text ≡ left = ap left_of is in
      let found : first_cell form size width column text ≡ Some cell = ap (first_cell form size width column) all ∙ first in
      rw found
      (ap (λ l. Some (l, behind form size width column text)) (append-nil cell ∙ ap (λ l. l ++ cell) none)
      ∙ ap (λ l. Some (cells ++ cell, l)) (ap (behind form size width column) all ∙ after))
  cells_more (suc count) column text cells left cell rest is first after =
      let parts = joined_parts (first_cell form size width column text) (cells_in form size width count (next width column) (behind form size width column text)) cells left is in
      rw (parts.2, cells_more count (next width column) (behind form size width column text) parts.1 left cell rest parts.3 first after)
      (ap (λ l. Some (l, rest)) (sym (append_assoc parts.0 parts.1 cell) ∙ ap (λ l. l ++ cell) (sym parts.4)))

  -- what was written of the front of the bytes
  pub record Written (start : ℕ) (bytes left : List ℕ) (column : ℕ) (old new : Option (List ℕ)) : Type 0 where
    pub count : ℕ
    pub text : List ℕ
    pub cells : List ℕ
    pub split : cells ++ left ≡ bytes
    pub column_is : column ≡ column_after width start count
    pub written : Appends old new text
    pub reads : (more : List ℕ) → cells_in form size width count start (text ++ more) ≡ Some (cells, more)

  pub written_none : (start : ℕ) (bytes : List ℕ) (held : Option (List ℕ)) → Written start bytes bytes start held held
  written_none start bytes held = record { count = 0; text = []; cells = []; split = refl; column_is = refl; written = appends_none held; reads = λ more. refl }

  pub written_more : (start : ℕ) (bytes rest left cell : List ℕ) (column after : ℕ) (old between new : Option (List ℕ)) → Written start bytes rest column old between
      → WritesCell form size width column cell between new → rest ≡ cell ++ left → after ≡ next width column → Written start bytes left after old new
  written_more start bytes rest left cell column after old between new front one split follows =
      record {
        count = suc front.count;
        text = front.text ++ one.text;
        cells = front.cells ++ cell;
        split = append_assoc front.cells cell left ∙ ap (λ l. front.cells ++ l) (sym split) ∙ front.split;
        column_is = follows ∙ ap (next width) front.column_is ∙ sym (column_more width start front.count);
        written = appends_both old between new front.text one.text front.written one.written;
        reads = λ more.
            ap (cells_in form size width (suc front.count) start) (append_assoc front.text one.text more)
            ∙ cells_more front.count start (front.text ++ (one.text ++ more)) front.cells (one.text ++ more) cell more (front.reads (one.text ++ more))
            (subst (λ c. first_cell form size width c (one.text ++ more) ≡ Some cell) front.column_is (one.reads more).0)
            (subst (λ c. behind form size width c (one.text ++ more) ≡ more) front.column_is (one.reads more).1);
      }

  pub written_all : (start : ℕ) (bytes left : List ℕ) (column : ℕ) (old new : Option (List ℕ)) → Written start bytes left column old new → left ≡ []
      → WritesCells form size width start column bytes old new
  written_all start bytes left column old new front none =
      let all : front.cells ≡ bytes = sym (append-nil front.cells) ∙ ap (λ l. front.cells ++ l) (sym none) ∙ front.split in
      record {
        count = front.count;
        text = front.text;
        ends = front.column_is;
        written = front.written;
        reads = λ more. subst (λ c. cells_in form size width front.count start (front.text ++ more) ≡ Some (c, more)) all (front.reads more);
      }

  pub reads_none : (start : ℕ) (old : Option (List ℕ)) (before : List ℕ) → ReadsCells form size width 0 start old old before before
  reads_none start None before = tt
  reads_none start (Some text) before = ([], text, refl, refl, sym (append-nil before))

  pub reads_more : (start count column : ℕ) (old between new : Option (List ℕ)) (before now after : List ℕ) → column ≡ column_after width start count
      → ReadsCells form size width count start old between before now → ReadsCell form size width column between new now after
      → ReadsCells form size width (suc count) start old new before after
  reads_more start count column None between new before now after column_is front one = tt
  reads_more start count column (Some text) between new before now after column_is front one =
      let there = subst (λ b. ReadsCell form size width column b new now after) front.3 one in (
        front.0 ++ there.1.0,
        behind form size width column front.1,
        cells_more count start text front.0 front.1 there.1.0 (behind form size width column front.1) front.2
            (subst (λ c. first_cell form size width c front.1 ≡ Some there.1.0) column_is there.1.1) (ap (λ c. behind form size width c front.1) (sym column_is)),
        there.0,
        there.1.2 ∙ ap (λ l. l ++ there.1.0) front.4 ∙ append_assoc before front.0 there.1.0,
      )

  -- ---- cells behind cells

  cells_both : (count more column : ℕ) (text cells left others rest : List ℕ) → cells_in form size width count column text ≡ Some (cells, left)
      → cells_in form size width more (column_after width column count) left ≡ Some (others, rest)
      → cells_in form size width (count + more) column text ≡ Some (cells ++ others, rest)
  cells_both zero more column text cells left others rest first then =
      let none : [] ≡ cells = ap cells_of first in
      let all : text ≡ left = ap left_of first in
      let sum : 0 + more ≡ more = omega arith in
      ap (λ n. cells_in form size width n column text) sum ∙ ap (cells_in form size width more column) all ∙ then ∙ ap (λ l. Some (l ++ others, rest)) none
  cells_both (suc count) more column text cells left others rest first then =
      let parts = joined_parts (first_cell form size width column text) (cells_in form size width count (next width column) (behind form size width column text)) cells left first in
      let sum : suc count + more ≡ suc (count + more) = omega arith in
      let longer : cells_in form size width (suc (count + more)) column text ≡ Some (cells ++ others, rest) =
      rw (parts.2, cells_both count more (next width column) (behind form size width column text) parts.1 left others rest parts.3 then)
      (ap (λ l. Some (l, rest)) (sym (append_assoc parts.0 parts.1 others) ∙ ap (λ l. l ++ others) (sym parts.4))) in
      ap (λ n. cells_in form size width n column text) sum ∙ longer

  pub column_both : (column count more : ℕ) → column_after width column (count + more) ≡ column_after width (column_after width column count) more
  column_both column zero more = let sum : 0 + more ≡ more = omega arith in ap (column_after width column) sum
  column_both column (suc count) more =
      let sum : suc count + more ≡ suc (count + more) = omega arith in ap (column_after width column) sum ∙ column_both (next width column) count more

  pub writes_none : (column : ℕ) (held : Option (List ℕ)) → WritesCells form size width column column [] held held
  writes_none column held = record { count = 0; text = []; ends = refl; written = appends_none held; reads = λ more. refl }

  pub writes_both : (column middle after : ℕ) (cells others : List ℕ) (old between new : Option (List ℕ)) → WritesCells form size width column middle cells old between
      → WritesCells form size width middle after others between new → WritesCells form size width column after (cells ++ others) old new
  writes_both column middle after cells others old between new first then =
      record {
        count = first.count + then.count;
        text = first.text ++ then.text;
        ends = then.ends ∙ ap (λ c. column_after width c then.count) first.ends ∙ sym (column_both column first.count then.count);
        written = appends_both old between new first.text then.text first.written then.written;
        reads = λ more.
            ap (cells_in form size width (first.count + then.count) column) (append_assoc first.text then.text more)
            ∙ cells_both first.count then.count column (first.text ++ (then.text ++ more)) cells (then.text ++ more) others more (first.reads (then.text ++ more))
            (subst (λ c. cells_in form size width then.count c (then.text ++ more) ≡ Some (others, more)) first.ends (then.reads more));
      }

  pub reads_both : (count more column middle : ℕ) (old between new : Option (List ℕ)) (cells others : List ℕ) → middle ≡ column_after width column count
      → ReadsCells form size width count column old between [] cells → ReadsCells form size width more middle between new [] others
      → ReadsCells form size width (count + more) column old new [] (cells ++ others)
  reads_both count more column middle None between new cells others column_is front one = tt
  reads_both count more column middle (Some text) between new cells others column_is front one =
      let there = subst (λ b. ReadsCells form size width more middle b new [] others) front.3 one in (
        front.0 ++ there.0,
        there.1,
        cells_both count more column text front.0 front.1 there.0 there.1 front.2
            (subst (λ c. cells_in form size width more c front.1 ≡ Some (there.0, there.1)) column_is there.2),
        there.3,
        ap (λ l. l ++ others) front.4 ∙ ap (λ l. front.0 ++ l) there.4,
      )

-- ---- what was there stays

pub extends_none : (bytes : List ℕ) → Extends bytes bytes
extends_none bytes = record { added = []; is = sym (append-nil bytes) }

pub extends_more : (first between last : List ℕ) → Extends first between → Extends between last → Extends first last
extends_more first between last one other = record { added = one.added ++ other.added; is = other.is ∙ ap (λ l. l ++ other.added) one.is ∙ append_assoc first one.added other.added }

pub extends_same : (before after : List ℕ) → after ≡ before → Extends before after
extends_same before after is = record { added = []; is = is ∙ sym (append-nil before) }

pub extends_by : (before added after : List ℕ) → after ≡ before ++ added → Extends before after
extends_by before added after is = record { added = added; is = is }
