-- Lists that a loop makes, item by item.
use Rattle.std.proofs.Common.{◌≡◌, ℕ, zero, suc, ◌+◌, ◌-◌, ◌%◌, ◌^◌, ◌<◌, Bool, true, false, List, [], ◌∷◌, ◌++◌, length, get_or, map, not, replicate, decimal, Option, Some, None, inl, inr, refl, sym, ap, ◌∙◌, subst, append_assoc, append-nil, length-append, arith}
use Rattle.std.specs.List.{Any}
use Rattle.std.proofs.lemmas.List.{get_or-map, length-map, length-replicate, replicate_more}
use Rattle.std.specs.Prelude.{◌⊎◌, bytes_eq, codes, IfErr, Result, Ok, Err}
use Rattle.std.specs.Borrow.{Bor}
use Rattle.std.proofs.lemmas.Slice.Eq.{bytes_eq-Decides}
use Rattle.std.specs.Char.{is_ascii_whitespace}
use Rattle.std.specs.Int.{w16, to_le_bytes}
use Rattle.std.specs.Io.KnownBytes.{Consumes}
use Rattle.std.proofs.lemmas.List.Elements.{filter-append}
use Rattle.zarr_cells.specs.Numbers.{number_in}
use Rattle.zarr_cells.specs.Words.{parts_between, SaysNoNumbers}
use Rattle.zarr_cells.specs.declared.error.CellsError.{CellsError}
use Rattle.zarr_cells.specs.declared.error.CellsError.TheVariants.{OutOfMemory}
use Rattle.zarr_cells.specs.Npy.{blank_count, extents, header_bytes, magic, padded, without_blanks, IsHeader, ReadsHeader}

-- ---- numbers

pub parts_said : (parts : List (Bor (List ℕ))) (words : List (List ℕ)) (numbers : List ℕ) → map (λ (part : Bor (List ℕ)). part.now) parts ≡ words
    → map (λ n. Some n) numbers ≡ map (λ (part : Bor (List ℕ)). number_in part.now) parts → map (λ n. Some n) numbers ≡ map number_in words
parts_said parts words numbers are says = says ∙ fused parts ∙ ap (map number_in) are
  where
    fused : (l : List (Bor (List ℕ))) → map (λ (part : Bor (List ℕ)). number_in part.now) l ≡ map number_in (map (λ (part : Bor (List ℕ)). part.now) l)
    fused [] = refl
    fused (part ∷ l) = ap (λ r. number_in part.now ∷ r) (fused l)

-- a part is no number, and so a word is none
pub any_said : (parts : List (Bor (List ℕ))) (words : List (List ℕ)) → map (λ (part : Bor (List ℕ)). part.now) parts ≡ words
    → Any (λ (part : Bor (List ℕ)). number_in part.now ≡ None) parts → Any (λ word. number_in word ≡ None) words
any_said parts words are some =
    let inside : some.0 < length words = subst (λ (n : ℕ). some.0 < n) (sym (length-map parts (λ (part : Bor (List ℕ)). part.now)) ∙ ap length are) some.2 in
    let at : get_or words some.0 some.1.now ≡ some.1.now =
    ap (λ (l : List (List ℕ)). get_or l some.0 some.1.now) (sym are) ∙ get_or-map (λ (part : Bor (List ℕ)). part.now) parts some.0 some.1 some.1.now some.2
    ∙ ap (λ (part : Bor (List ℕ)). part.now) some.3 in
    (some.0, some.1.now, inside, at, some.4)

-- no list of numbers, for one of its parts
pub numbers_refused : {T : Type 0} (word : List ℕ) (parts : List (Bor (List ℕ))) (r : Result T CellsError) → bytes_eq word (codes "-") ≡ false
    → map (λ (part : Bor (List ℕ)). part.now) parts ≡ parts_between word
    → IfErr r (λ e. (e ≡ OutOfMemory) ⊎ Any (λ (part : Bor (List ℕ)). number_in part.now ≡ None) parts) → IfErr r (λ e. (e ≡ OutOfMemory) ⊎ SaysNoNumbers word)
numbers_refused word parts (Ok numbers) other are refused = tt
numbers_refused word parts (Err e) other are refused =
    elim refused [ inl short ↦ inl short | inr some ↦ inr (other, any_said parts (parts_between word) are some) ]

-- ---- extents

pub extents_push : (shape : List ℕ) (extent : ℕ) → extents (shape ++ extent ∷ []) ≡ extents shape ++ decimal extent ++ 44 ∷ []
extents_push [] extent = refl
extents_push (first ∷ shape) extent =
    ap (λ l. decimal first ++ 44 ∷ l) (extents_push shape extent)
    ∙ ap (λ l. decimal first ++ 44 ∷ l) (append_assoc (extents shape) (decimal extent) (44 ∷ []))
    ∙ sym (append_assoc (decimal first) (44 ∷ extents shape) (decimal extent ++ 44 ∷ []))
    ∙ sym (append_assoc (extents (first ∷ shape)) (decimal extent) (44 ∷ []))

-- ---- blanks

pub blank_behind : (text : List ℕ) (blank : ℕ) → is_ascii_whitespace blank ≡ true → without_blanks (text ++ blank ∷ []) ≡ without_blanks text
blank_behind text blank is =
    filter-append (λ byte. not (is_ascii_whitespace byte)) text (blank ∷ [])
    ∙ ap (λ l. without_blanks text ++ l) (let none : without_blanks (blank ∷ []) ≡ [] = rw is refl in none)
    ∙ append-nil (without_blanks text)

blanks_gone : (n : ℕ) → without_blanks (replicate n 32) ≡ []
blanks_gone zero = refl
blanks_gone (suc n) = blanks_gone n

-- one blank more
pub blank_more : (made text : List ℕ) (n : ℕ) → made ≡ text ++ replicate n 32 → made ++ 32 ∷ [] ≡ text ++ replicate (n + 1) 32
blank_more made text n is = ap (λ l. l ++ 32 ∷ []) is ∙ append_assoc text (replicate n 32) (32 ∷ []) ∙ ap (λ l. text ++ l) (replicate_more n 32)

pub without_padding : (text : List ℕ) → without_blanks (padded text) ≡ without_blanks text
without_padding text =
    blank_behind (text ++ replicate (blank_count text) 32) 10 refl ∙ filter-append (λ byte. not (is_ascii_whitespace byte)) text (replicate (blank_count text) 32)
    ∙ ap (λ l. without_blanks text ++ l) (blanks_gone (blank_count text)) ∙ append-nil (without_blanks text)

whole_size : (n : ℕ) → (10 + (n + (63 - (n % 64 + 10) % 64) + 1)) % 64 ≡ 0
whole_size n = omega arith

-- a header is a multiple of 64 bytes
pub padded_size : (text : List ℕ) → length (header_bytes (padded text)) % 64 ≡ 0
padded_size text =
    let n = blank_count text in
    let blanks : length (replicate n 32) ≡ n = length-replicate n 32 in
    let size : length (padded text) ≡ length text + n + 1 =
    length-append (text ++ replicate n 32) (10 ∷ []) ∙ ap (λ k. k + 1) (length-append text (replicate n 32) ∙ ap (λ k. length text + k) blanks) in
    let whole : length (header_bytes (padded text)) ≡ 10 + (length text + n + 1) =
    length-append magic (to_le_bytes w16 (length (padded text)) ++ padded text)
    ∙ ap (λ k. 8 + k) (length-append (to_le_bytes w16 (length (padded text))) (padded text)) ∙ omega (arith, size) in
    ap (λ k. k % 64) whole ∙ whole_size (length text)

pub padded_bytes_size : (says bytes : List ℕ) → bytes ≡ header_bytes (padded says) → length bytes % 64 ≡ 0
padded_bytes_size says bytes is = ap (λ (l : List ℕ). length l % 64) is ∙ padded_size says

-- what is written is a header
pub padded_header : (says bytes : List ℕ) → bytes ≡ header_bytes (padded says) → length (padded says) < 2 ^ 16 → IsHeader says bytes
padded_header says bytes is short = record { text = padded says; is = is; short = short; same = without_padding says }

-- ---- what a reader gave, piece by piece

pub consumes_both : (old between new : Option (List ℕ)) (one other : List ℕ) → Consumes old between one → Consumes between new other → Consumes old new (one ++ other)
consumes_both None between new one other first second = tt
consumes_both (Some xs) None new one other first second = absurd first
consumes_both (Some xs) (Some ys) None one other first second = absurd second
consumes_both (Some xs) (Some ys) (Some zs) one other first second = first ∙ ap (λ l. one ++ l) second ∙ sym (append_assoc one other zs)

pub header_consumed : (old started told new : Option (List ℕ)) (size : ℕ) (text : List ℕ) → Consumes old started magic → Consumes started told (to_le_bytes w16 size) → length text ≡ size
    → Consumes told new text → Consumes old new (header_bytes text)
header_consumed old started told new size text first second is third =
    consumes_both old started new magic (to_le_bytes w16 (length text) ++ text) first
    (consumes_both started told new (to_le_bytes w16 (length text)) text (subst (λ n. Consumes started told (to_le_bytes w16 n)) (sym is) second) third)

pub header_is : (says text : List ℕ) (old new : Option (List ℕ)) (same : Bool) → length text < 2 ^ 16 → Consumes old new (header_bytes text)
    → same ≡ bytes_eq (without_blanks text) (without_blanks says) → same ≡ true → ReadsHeader says old new
header_is says text old new same short read is holds =
    record { bytes = header_bytes text; is = record { text = text; is = refl; short = short; same = (bytes_eq-Decides (without_blanks text) (without_blanks says)).0 (sym is ∙ holds) }; read = read }
