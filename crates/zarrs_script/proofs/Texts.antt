-- The text of cells, one cell after another.
use Rattle.std.proofs.Common.{◌≡◌, ℕ, zero, suc, ◌+◌, ◌-◌, ◌^◌, decimal, nat_lt, lt-ltb, get_or, ◌*◌, ◌/◌, ◌<◌, ◌≤◌}
use Rattle.std.proofs.Common.{◌==◌, ◌&&◌, Bool, true, false, cond, List, [], ◌∷◌, ◌++◌, length, map, take, slice_range}
use Rattle.std.proofs.Common.{Option, Some, None, IsSome, option_map, refl, sym, ap, ◌∙◌, append_assoc, arith}
use Rattle.std.specs.List.{range_with_len, join_with_byte}
use Rattle.std.proofs.lemmas.Bool.Decides.{nat_tests}
use Rattle.std.proofs.lemmas.List.FromFn.{map-range_with_len_more, length-map-range_with_len}
use Rattle.zarrs_data_type.specs.ArrayData.{fixed}
use Rattle.zarrs_data_type.specs.Cell.{Cell, bytes}
use Rattle.zarrs_script.specs.declared.cell_type.CellType.{CellType}
use Rattle.zarrs_script.specs.declared.cell_type.CellType.TheVariants as cell
use Rattle.zarrs_script.specs.CellTypes.{cell_type_size, greatest, is_signed}
use Rattle.zarrs_script.specs.CellTexts.{value_of, number_text, cell_text}
use Rattle.zarrs_script.proofs.Bytes.{value_below}
use Rattle.zarrs_script.specs.Transcript.{line, list_text, data_text}

-- cell number i of bytes, and its text
abbrev pub cell_bytes : CellType → List ℕ → ℕ → List ℕ
cell_bytes cell_type held i = slice_range held (i * cell_type_size cell_type) (i * cell_type_size cell_type + cell_type_size cell_type)

abbrev pub text_at : CellType → List ℕ → ℕ → List ℕ
text_at cell_type held i = number_text cell_type (cell_bytes cell_type held i)

-- the texts of the first n cells
abbrev pub texts : CellType → List ℕ → ℕ → List (List ℕ)
texts cell_type held n = map (text_at cell_type held) (range_with_len 0 n)

-- bytes that are whole cells, and nothing else
abbrev Text : CellType → List ℕ → Option (List ℕ) → Type 0
Text cell_type held None = Unit {0}
Text cell_type held (Some text) =
    (length held ≡ length held / cell_type_size cell_type * cell_type_size cell_type) × (line (list_text (texts cell_type held (length held / cell_type_size cell_type))) ≡ text)

map_map : (f : Cell → List ℕ) (g : ℕ → Cell) (ns : List ℕ) → map (λ n. f (g n)) ns ≡ map f (map g ns)
map_map f g [] = refl
map_map f g (n ∷ ns) = ap (λ (xs : List (List ℕ)). f (g n) ∷ xs) (map_map f g ns)

fixed_text : (cell_type : CellType) (held : List ℕ) (whole values : Bool) (given : List Cell)
    → (whole ≡ true → length held ≡ length held / cell_type_size cell_type * cell_type_size cell_type)
    → map (cell_text cell_type) given ≡ texts cell_type held (length held / cell_type_size cell_type)
    → Text cell_type held (option_map (λ given. line (list_text (map (cell_text cell_type) given))) (cond (whole && values) (Some given) None))
fixed_text cell_type held true true given long e = (long refl, ap (λ (ts : List (List ℕ)). line (list_text ts)) (sym e))
fixed_text cell_type held true false given long e = tt
fixed_text cell_type held false values given long e = tt

whole_cells : (held : List ℕ) (n : ℕ) → (length held == n) ≡ true → length held ≡ n
whole_cells held n h = grind (arith, nat_tests)

-- the cells of bytes, when each has this many of them
sized : (cell_type : CellType) (held : List ℕ) (given : List Cell) (values : Bool) → given ≡ map (λ i. bytes (cell_bytes cell_type held i)) (range_with_len 0 (length held / cell_type_size cell_type))
    → Text cell_type held (option_map (λ given. line (list_text (map (cell_text cell_type) given))) (cond ((length held == length held / cell_type_size cell_type * cell_type_size cell_type) && values) (Some given) None))
sized cell_type held given values is =
    fixed_text cell_type held (length held == length held / cell_type_size cell_type * cell_type_size cell_type) values given (whole_cells held (length held / cell_type_size cell_type * cell_type_size cell_type))
    (ap (map (cell_text cell_type)) is ∙ sym (map_map (cell_text cell_type) (λ i. bytes (cell_bytes cell_type held i)) (range_with_len 0 (length held / cell_type_size cell_type))))

pub text_is : (cell_type : CellType) (held : List ℕ) → Text cell_type held (data_text cell_type (fixed held))
text_is cell.Bool held = sized cell.Bool held _ _ refl
text_is cell.Int8 held = sized cell.Int8 held _ _ refl
text_is cell.Int16 held = sized cell.Int16 held _ _ refl
text_is cell.Int32 held = sized cell.Int32 held _ _ refl
text_is cell.Int64 held = sized cell.Int64 held _ _ refl
text_is cell.UInt8 held = sized cell.UInt8 held _ _ refl
text_is cell.UInt16 held = sized cell.UInt16 held _ _ refl
text_is cell.UInt32 held = sized cell.UInt32 held _ _ refl
text_is cell.UInt64 held = sized cell.UInt64 held _ _ refl

-- what data that has a text looks like
pub record Shown (cell_type : CellType) (held : List ℕ) : Type 0 where
  pub whole : length held ≡ length held / cell_type_size cell_type * cell_type_size cell_type
  pub text : data_text cell_type (fixed held) ≡ Some (line (list_text (texts cell_type held (length held / cell_type_size cell_type))))

shown_as : (cell_type : CellType) (held : List ℕ) (said : Option (List ℕ)) → said ≡ data_text cell_type (fixed held) → IsSome said → Text cell_type held said → Shown cell_type held
shown_as cell_type held None e some is = absurd (cc some)
shown_as cell_type held (Some text) e some is = record { whole = is.0; text = sym e ∙ ap (λ (t : List ℕ). Some t) (sym is.1) }

pub shown : (cell_type : CellType) (held : List ℕ) → IsSome (data_text cell_type (fixed held)) → Shown cell_type held
shown cell_type held some = shown_as cell_type held (data_text cell_type (fixed held)) refl some (text_is cell_type held)

join_push : (c : ℕ) (x : List ℕ) (xs : List (List ℕ)) (y : List ℕ) → join_with_byte c ((x ∷ xs) ++ y ∷ []) ≡ join_with_byte c (x ∷ xs) ++ c ∷ y
join_push c x [] y = refl
join_push c x (z ∷ zs) y = ap (λ (rest : List ℕ). x ++ c ∷ rest) (join_push c z zs y) ∙ sym (append_assoc x (c ∷ join_with_byte c (z ∷ zs)) (c ∷ y))

join_more : (c : ℕ) (xs : List (List ℕ)) (y : List ℕ) → 0 < length xs → join_with_byte c (xs ++ y ∷ []) ≡ join_with_byte c xs ++ c ∷ y
join_more c [] y h = absurd (omega arith)
join_more c (x ∷ xs) y h = join_push c x xs y

-- the first n cells joined by commas, and one more
pub one_text : (cell_type : CellType) (held : List ℕ) (n : ℕ) → 0 < n → join_with_byte 44 (texts cell_type held (n + 1)) ≡ join_with_byte 44 (texts cell_type held n) ++ 44 ∷ text_at cell_type held n
one_text cell_type held n some =
    let counted : length (texts cell_type held n) ≡ n = length-map-range_with_len (text_at cell_type held) 0 n in
    ap (join_with_byte 44) (map-range_with_len_more (text_at cell_type held) 0 n n (omega arith)) ∙ join_more 44 (texts cell_type held n) (text_at cell_type held n) (omega arith)

list_of : (ts : List (List ℕ)) → 0 < length ts → join_with_byte 44 ts ≡ list_text ts
list_of [] h = absurd (omega arith)
list_of (t ∷ ts) h = refl

pub joined_is : (cell_type : CellType) (held : List ℕ) (n : ℕ) → 0 < n → join_with_byte 44 (texts cell_type held n) ≡ list_text (texts cell_type held n)
joined_is cell_type held n some =
    let counted : length (texts cell_type held n) ≡ n = length-map-range_with_len (text_at cell_type held) 0 n in
    list_of (texts cell_type held n) (omega arith)

-- the first cell
pub first_cell : (cell_type : CellType) (held : List ℕ) → take (cell_type_size cell_type) held ≡ cell_bytes cell_type held 0
first_cell cell.Bool held = refl
first_cell cell.Int8 held = refl
first_cell cell.Int16 held = refl
first_cell cell.Int32 held = refl
first_cell cell.Int64 held = refl
first_cell cell.UInt8 held = refl
first_cell cell.UInt16 held = refl
first_cell cell.UInt32 held = refl
first_cell cell.UInt64 held = refl

pub some_size : (cell_type : CellType) → 0 < cell_type_size cell_type
some_size cell.Bool = omega arith
some_size cell.Int8 = omega arith
some_size cell.Int16 = omega arith
some_size cell.Int32 = omega arith
some_size cell.Int64 = omega arith
some_size cell.UInt8 = omega arith
some_size cell.UInt16 = omega arith
some_size cell.UInt32 = omega arith
some_size cell.UInt64 = omega arith

-- a cell at least, and then the cells that were printed are all of them
some_of : (n size long : ℕ) → long ≡ n * size → 0 < size → size ≤ long → 1 ≤ n
some_of zero size long e positive le = absurd (omega (arith, e, positive, le))
some_of (suc n) size long e positive le = omega arith

pub all_texts : (cell_type : CellType) (held : List ℕ) (index : ℕ) → Shown cell_type held → cell_type_size cell_type ≤ length held → length held / cell_type_size cell_type ≤ index → (1 ≤ length held / cell_type_size cell_type → index ≤ length held / cell_type_size cell_type)
    → data_text cell_type (fixed held) ≡ Some (join_with_byte 44 (texts cell_type held index) ++ 10 ∷ [])
all_texts cell_type held index is le past upto =
    let some : 1 ≤ length held / cell_type_size cell_type = some_of (length held / cell_type_size cell_type) (cell_type_size cell_type) (length held) is.whole (some_size cell_type) le in
    let below = upto some in
    let all : index ≡ length held / cell_type_size cell_type = omega arith in
    is.text ∙ ap (λ (t : List ℕ). Some (line t)) (sym (joined_is cell_type held (length held / cell_type_size cell_type) some) ∙ ap (λ (n : ℕ). join_with_byte 44 (texts cell_type held n)) (sym all))

-- a signed number in its bytes
pub signed_below : (cell_type : CellType) (held : List ℕ) → is_signed cell_type ≡ true → length held ≡ cell_type_size cell_type → ((i : ℕ) → get_or held i 0 < 256) → value_of held ≤ greatest cell_type * 2 + 1
signed_below cell.Bool held signed long small = absurd (cc signed)
signed_below cell.Int8 held signed long small = let below = value_below held small in let power : 256 ^ length held ≡ 256 ^ 1 = ap (λ (n : ℕ). 256 ^ n) long in omega arith
signed_below cell.Int16 held signed long small = let below = value_below held small in let power : 256 ^ length held ≡ 256 ^ 2 = ap (λ (n : ℕ). 256 ^ n) long in omega arith
signed_below cell.Int32 held signed long small = let below = value_below held small in let power : 256 ^ length held ≡ 256 ^ 4 = ap (λ (n : ℕ). 256 ^ n) long in omega arith
signed_below cell.Int64 held signed long small = let below = value_below held small in let power : 256 ^ length held ≡ 256 ^ 8 = ap (λ (n : ℕ). 256 ^ n) long in omega arith
signed_below cell.UInt8 held signed long small = absurd (cc signed)
signed_below cell.UInt16 held signed long small = absurd (cc signed)
signed_below cell.UInt32 held signed long small = absurd (cc signed)
signed_below cell.UInt64 held signed long small = absurd (cc signed)

-- the text of a number below 0
pub negative_text : (cell_type : CellType) (held : List ℕ) (most value : ℕ) → most ≡ greatest cell_type → value ≡ value_of held → is_signed cell_type ≡ true → most < value → value ≤ most * 2 + 1
    → number_text cell_type held ≡ 45 ∷ decimal (most * 2 + 1 - value + 1)
negative_text cell_type held most value is_most is_value signed above within =
    let past : nat_lt (greatest cell_type) (value_of held) ≡ true = rw (← is_most, ← is_value) (lt-ltb most value above) in
    let amount : greatest cell_type * 2 + 2 - value_of held ≡ most * 2 + 1 - value + 1 = rw (← is_most, ← is_value) (omega arith) in
    rw (signed, past) (ap (λ (n : ℕ). 45 ∷ decimal n) amount)
