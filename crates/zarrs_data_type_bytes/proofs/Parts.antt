-- Parts of data over boxes.
use Rattle.std.proofs.Common.{◌≡◌, ℕ, ◌+◌, ◌*◌, ◌<◌, ◌≤◌, Bool, true, false, cond, eqb, List, []}
use Rattle.std.proofs.Common.{◌++◌, length, map, take, drop, get_or, slice_get, Option, Some, refl, sym, ap, ◌∙◌}
use Rattle.std.proofs.Common.{subst, arith, append-nil}
use Rattle.std.specs.Prelude.{All, slice_index, slice_index_or}
use Rattle.std.specs.List.{range_with_len}
use Rattle.std.proofs.Math.Nat.{mul-le-mul_left}
use Rattle.std.proofs.lemmas.Bool.{eq-eqb, and_from}
use Rattle.std.proofs.lemmas.List.{length-map, get_or-map, take_all, drop_all, get_or_default}
use Rattle.std.proofs.lemmas.List.FromFn.{length-map-range_with_len, get_or-map-range_with_len}
use Rattle.std.proofs.lemmas.Option.{slice_get-get_or, get_or_from_slice_get, slice_get_within}
use Rattle.zarrs_subset.specs.Boxes.{position_count, place, unravel, offset_by}
use Rattle.zarrs_subset.specs.Pieces.{pieces, piece_at}
use Rattle.zarrs_subset.specs.Regions.{Box, IsLong, Holds, in_box, place_in, cell_in, positions, cells_over, TakesPart, LiesInBox}
use Rattle.zarrs_subset.proofs.Bytes.{place_in_below}
use Rattle.zarrs_subset.proofs.Kernel.{get_or-part}
use Rattle.zarrs_subset.proofs.Positions.{unravel_in, place-unravel, length-positions, in_box-offset_by, offset_from-by, positions_all}
use Rattle.zarrs_data_type_kinds.specs.declared.data_type.DataType.{DataType}
use Rattle.zarrs_data_type_kinds.specs.Kind.{Kind, kind, element_size, is_variable}
use Rattle.zarrs_data_type_kinds.specs.Cell.{Cell, bytes, none, is_value}
use Rattle.zarrs_data_type_kinds.proofs.Sizes.{element_size-positive}
use Rattle.zarrs_data_type_bytes.specs.ArrayData.{ArrayData, fixed, variable}
use Rattle.zarrs_data_type_bytes.specs.Cells.{fits, cell_at, cells, HasCells}
use Rattle.zarrs_data_type_bytes.specs.Parts.{TakesCells, ExtractsCells, TakesAt, ExtractsAt, TakesEach, ExtractsEach}
use Rattle.zarrs_data_type_bytes.specs.Places.{string_of}
use Rattle.zarrs_data_type_bytes.specs.StringParts.{string_at}
use Rattle.zarrs_subset.proofs.Inside.{holds_inside}
use Rattle.zarrs_data_type_bytes.proofs.Cells.{AllValues, cells-from, cells-parts, HasCells-cells, HasCells-parts, fitting-fixed}
use Rattle.zarrs_data_type_bytes.proofs.Filled.{cell_at-fixed, fits-variable}
use Rattle.zarrs_data_type_bytes.proofs.Pieces.{length-pieces}

-- ---- boxes

-- the position of number i
pub at_place : (box : Box) → IsLong box → (i : ℕ) → i < position_count box.shape → (position : List ℕ) × Holds box position × (place_in box position ≡ i)
at_place box long i lt =
    let inside = unravel_in box.shape i lt in (
      offset_by box.start (unravel box.shape i),
      in_box-offset_by box.start box.shape (unravel box.shape i) long inside,
      ap (λ q. place box.shape q) (offset_from-by box.start box.shape (unravel box.shape i) long inside) ∙ place-unravel box.shape i lt,
    )

-- ---- lists over boxes

-- what lists hold by position, by number
taken_by : {X : Type 0} (box other : Box) (part old new : List X) (f g h : ℕ → X) → IsLong box → IsLong other
    → ((i : ℕ) → i < position_count other.shape → slice_get part i ≡ Some (f i))
    → ((i : ℕ) → i < position_count box.shape → slice_get old i ≡ Some (g i))
    → ((i : ℕ) → i < position_count box.shape → slice_get new i ≡ Some (h i))
    → TakesPart box other part old new → TakesAt box other f g h
taken_by box other part old new f g h long other_long part_at old_at new_at takes position holds =
    go (in_box other position) refl (takes position holds)
  where
    below : place_in box position < position_count box.shape
    below = place_in_below box position long holds

    go : (b : Bool) → in_box other position ≡ b → cell_in box new position ≡ cond b (cell_in other part position) (cell_in box old position)
        → h (place_in box position) ≡ cond b (f (place_in other position)) (g (place_in box position))
    go true is same =
        let e : Some (h (place_in box position)) ≡ Some (f (place_in other position)) =
        sym (new_at (place_in box position) below) ∙ same ∙ part_at (place_in other position) (place_in_below other position other_long is) in
        cc
    go false is same =
        let e : Some (h (place_in box position)) ≡ Some (g (place_in box position)) =
        sym (new_at (place_in box position) below) ∙ same ∙ old_at (place_in box position) below in
        cc

piece_get : (size n : ℕ) (b : List ℕ) (i : ℕ) → i < n → slice_get (pieces size n b) i ≡ Some (piece_at size b i)
piece_get size n b i lt =
    slice_get-get_or (pieces size n b) i [] (omega (arith, length-pieces size n b))
    ∙ ap Some (get_or-map-range_with_len (piece_at size b) 0 n i i [] lt (omega arith))

-- what the kernel says of pieces
pub pieces-taken : (size : ℕ) (box other : Box) (part old new : List ℕ) → IsLong box → IsLong other
    → TakesPart box other (cells_over size other part) (cells_over size box old) (cells_over size box new)
    → TakesAt box other (piece_at size part) (piece_at size old) (piece_at size new)
pieces-taken size box other part old new long other_long takes =
    taken_by box other (cells_over size other part) (cells_over size box old) (cells_over size box new) (piece_at size part) (piece_at size old) (piece_at size new) long other_long
    (λ i lt. piece_get size (position_count other.shape) part i lt)
    (λ i lt. piece_get size (position_count box.shape) old i lt)
    (λ i lt. piece_get size (position_count box.shape) new i lt)
    takes

-- where each position is taken
pub taken-extracted : {X : Type 0} (box other : Box) (f g h : ℕ → X) → IsLong box → IsLong other → LiesInBox other box → TakesAt other box f g h → ExtractsAt box f other h
taken-extracted box other f g h long other_long inside takes position holds =
    let there : in_box box position ≡ true = holds_inside other box position other_long long inside holds in
    takes position holds ∙ ap (λ b. cond b (f (place_in box position)) (g (place_in other position))) there

-- a list that is written over, all of it
pub put_whole : (len : ℕ) (old new : List ℕ) → len ≡ length old → length new ≡ length old → take len (new ++ drop (length new) old) ≡ new
put_whole len old new is same =
    let none : drop (length new) old ≡ [] = drop_all (length new) old (omega arith) in
    rw none (ap (take len) (append-nil new) ∙ take_all len new (omega arith))

-- ---- flags

flag_piece : (b : List ℕ) (i : ℕ) → get_or (piece_at 1 b i) 0 0 ≡ slice_index b i
flag_piece b i =
    let at : i * 1 + 0 ≡ i = omega arith in
    get_or-part (i * 1) (i * 1 + 1) 0 b (omega arith) ∙ ap (λ k. slice_index b k) at

pub flags-taken : (box other : Box) (part old new : List ℕ) → TakesAt box other (piece_at 1 part) (piece_at 1 old) (piece_at 1 new)
    → TakesAt box other (slice_index part) (slice_index old) (slice_index new)
flags-taken box other part old new takes position holds = go (in_box other position) (takes position holds)
  where
    i : ℕ
    i = place_in box position

    j : ℕ
    j = place_in other position

    go : (b : Bool) → piece_at 1 new i ≡ cond b (piece_at 1 part j) (piece_at 1 old i) → slice_index new i ≡ cond b (slice_index part j) (slice_index old i)
    go true same = sym (flag_piece new i) ∙ ap (λ l. get_or l 0 0) same ∙ flag_piece part j
    go false same = sym (flag_piece new i) ∙ ap (λ l. get_or l 0 0) same ∙ flag_piece old i

pub flags-extracted : (box other : Box) (old new : List ℕ) → ExtractsAt box (piece_at 1 old) other (piece_at 1 new) → ExtractsAt box (slice_index old) other (slice_index new)
flags-extracted box other old new same position holds =
    sym (flag_piece new (place_in other position)) ∙ ap (λ l. get_or l 0 0) (same position holds) ∙ flag_piece old (place_in box position)

-- flags of two masks are flags
pub flags_below-taken : (box other : Box) (part old new : List ℕ) → IsLong box → IsLong other → length part ≡ position_count other.shape → length old ≡ position_count box.shape → length new ≡ position_count box.shape
    → All (λ flag. flag < 2) part → All (λ flag. flag < 2) old → TakesAt box other (slice_index part) (slice_index old) (slice_index new) → All (λ flag. flag < 2) new
flags_below-taken box other part old new long other_long part_len old_len new_len part_flags old_flags takes k d lt =
    subst (λ x. x < 2) (sym (get_or_default new k d 0 lt))
    (let at = at_place box long k (omega arith) in
    subst (λ i. slice_index new i < 2) at.2
    (go (in_box other at.0) at.0 at.1 refl (takes at.0 at.1)))
  where
    go : (b : Bool) (position : List ℕ) → Holds box position → in_box other position ≡ b
        → slice_index new (place_in box position) ≡ cond b (slice_index part (place_in other position)) (slice_index old (place_in box position))
        → slice_index new (place_in box position) < 2
    go true position holds is same = subst (λ x. x < 2) (sym same) (part_flags (place_in other position) 0 (omega (arith, part_len, place_in_below other position other_long is)))
    go false position holds is same = subst (λ x. x < 2) (sym same) (old_flags (place_in box position) 0 (omega (arith, old_len, place_in_below box position long holds)))

pub flags_below-extracted : (box other : Box) (old new : List ℕ) → IsLong box → IsLong other → LiesInBox other box → length old ≡ position_count box.shape → length new ≡ position_count other.shape
    → All (λ flag. flag < 2) old → ExtractsAt box (slice_index old) other (slice_index new) → All (λ flag. flag < 2) new
flags_below-extracted box other old new long other_long inside old_len new_len flags same k d lt =
    let at = at_place other other_long k (omega arith) in
    let there = holds_inside other box at.0 other_long long inside at.1 in
    subst (λ x. x < 2) (sym (get_or_default new k d 0 lt))
    (subst (λ i. slice_index new i < 2) at.2
    (subst (λ x. x < 2) (sym (same at.0 at.1)) (flags (place_in box at.0) 0 (omega (arith, old_len, place_in_below box at.0 long there)))))

-- ---- levels

bytes_cond : (b : Bool) (x y z : List ℕ) → x ≡ cond b y z → bytes x ≡ cond b (bytes y) (bytes z)
bytes_cond true x y z is = ap bytes is
bytes_cond false x y z is = ap bytes is

pub takes-fixed : (k : Kind) (size : ℕ) (box other : Box) (part old new : List ℕ) → element_size k ≡ Some size → length new ≡ position_count box.shape * size
    → TakesAt box other (piece_at size part) (piece_at size old) (piece_at size new) → TakesEach k box other (fixed part) (fixed old) (fixed new)
takes-fixed k size box other part old new is len takes = record {
  has_kind = fitting-fixed k size new (position_count box.shape) is len;
  each_cell = λ position holds.
      let i = place_in box position in
      let j = place_in other position in
      rw (cell_at-fixed k size new i is, cell_at-fixed k size part j is, cell_at-fixed k size old i is)
      (bytes_cond (in_box other position) (piece_at size new i) (piece_at size part j) (piece_at size old i) (takes position holds));
}

pub extracts-fixed : (k : Kind) (size : ℕ) (box other : Box) (old new : List ℕ) → element_size k ≡ Some size → length new ≡ position_count other.shape * size
    → ExtractsAt box (piece_at size old) other (piece_at size new) → ExtractsEach k box (fixed old) other (fixed new)
extracts-fixed k size box other old new is len same = record {
  has_kind = fitting-fixed k size new (position_count other.shape) is len;
  each_cell = λ position holds.
      cell_at-fixed k size new (place_in other position) is ∙ ap bytes (same position holds) ∙ sym (cell_at-fixed k size old (place_in box position) is);
}

pub positive_size : (n size : ℕ) → 0 < size → n ≤ n * size
positive_size n size positive = let one : 1 ≤ size = positive in omega (arith, mul-le-mul_left n one)

-- the entry of a list that is made position by position
made_at : (f : List ℕ → List ℕ) (box : Box) (position : List ℕ) → IsLong box → Holds box position → slice_index_or (map f (positions box)) (place_in box position) [] ≡ f position
made_at f box position long holds =
    let at = positions_all box.start box.shape position long holds in
    get_or-map f (positions box) (place_in box position) [] [] (slice_get_within (positions box) (place_in box position) position at)
    ∙ ap f (get_or_from_slice_get (positions box) (place_in box position) position [] at)

fitting-variable : (k : Kind) (f : List ℕ → List ℕ) (box : Box) (made : List (List ℕ)) → IsLong box → is_variable k ≡ true → made ≡ map f (positions box) → fits k (variable made) (position_count box.shape) ≡ true
fitting-variable k f box made long is is_made =
    let count : length made ≡ position_count box.shape = ap length is_made ∙ length-map (positions box) f ∙ length-positions box.start box.shape long in
    and_from (is_variable k) (eqb (length made) (position_count box.shape)) is (eq-eqb (length made) (position_count box.shape) count)

pub takes-variable : (k : Kind) (box other : Box) (part old new : List (List ℕ)) → fits k (variable old) (position_count box.shape) ≡ true → length new ≡ position_count box.shape
    → TakesAt box other (string_of part) (string_of old) (string_of new) → TakesEach k box other (variable part) (variable old) (variable new)
takes-variable k box other part old new fit len taken =
    let n = position_count box.shape in
    record {
      has_kind = and_from (is_variable k) (eqb (length new) n) (fits-variable k old n fit).0 (eq-eqb (length new) n len);
      each_cell = λ position holds.
          bytes_cond (in_box other position) (string_of new (place_in box position)) (string_of part (place_in other position)) (string_of old (place_in box position)) (taken position holds);
    }

pub extracts-variable : (k : Kind) (box other : Box) (old new : List (List ℕ)) (n : ℕ) → IsLong other → fits k (variable old) n ≡ true
    → new ≡ map (string_at box old) (positions other) → ExtractsEach k box (variable old) other (variable new)
extracts-variable k box other old new n long fit is = record {
  has_kind = fitting-variable k (string_at box old) other new long (fits-variable k old n fit).0 is;
  each_cell = λ position holds. ap bytes (ap (λ l. slice_index_or l (place_in other position) []) is ∙ made_at (string_at box old) other position long holds);
}

-- ---- lists of cells

-- the cell of number i of the list of the cells
cells_get : (k : Kind) (d : ArrayData) (cs : List Cell) → cells k d ≡ Some cs → (i : ℕ) → i < length cs → slice_get cs i ≡ Some (cell_at k d i)
cells_get k d cs is i lt =
    slice_get-get_or cs i none lt
    ∙ ap Some (ap (λ l. get_or l i none) (cells-parts k d cs is).2 ∙ get_or-map-range_with_len (λ j. cell_at k d j) 0 (length cs) i i none lt (omega arith))

-- a list of the cells, where each is a value
made_cells : (t : DataType) (d : ArrayData) (n : ℕ) → fits (kind t) d n ≡ true → AllValues (kind t) d n → (cs : List Cell) × (cells (kind t) d ≡ Some cs) × (length cs ≡ n)
made_cells t d n fit values =
    let k = kind t in (
      map (λ i. cell_at k d i) (range_with_len 0 n),
      cells-from k d n (element_size-positive t) fit values,
      length-map-range_with_len (λ i. cell_at k d i) 0 n,
    )

pub takes_cells : (t : DataType) (box other : Box) (part old new : ArrayData) → IsLong box → IsLong other
    → HasCells (kind t) old (position_count box.shape) → HasCells (kind t) part (position_count other.shape)
    → TakesEach (kind t) box other part old new → TakesCells (kind t) box other part old new
takes_cells t box other part old new long other_long held given taken =
    let k = kind t in
    let h = HasCells-cells k old (position_count box.shape) held in
    let g = HasCells-cells k part (position_count other.shape) given in
    let made = made_cells t new (position_count box.shape) taken.has_kind values in
    record {
      given = g.0;
      held = h.0;
      made = made.0;
      part_is = g.1;
      old_is = h.1;
      new_is = made.1;
      count = made.2 ∙ sym h.2;
      takes = λ position holds.
          let below = place_in_below box position long holds in
          cells_get k new made.0 made.1 (place_in box position) (omega (arith, made.2))
          ∙ ap Some (taken.each_cell position holds)
          ∙ split (in_box other position) position refl (cell_at k part (place_in other position)) (cell_at k old (place_in box position)) (cell_in other g.0 position) (cell_in box h.0 position)
          (λ there. cells_get k part g.0 g.1 (place_in other position) (omega (arith, g.2, place_in_below other position other_long there)))
          (cells_get k old h.0 h.1 (place_in box position) (omega (arith, h.2)));
    }
  where
    split : (b : Bool) (position : List ℕ) → in_box other position ≡ b → (x y : Cell) (u v : Option Cell) → (in_box other position ≡ true → u ≡ Some x) → v ≡ Some y → Some (cond b x y) ≡ cond b u v
    split true position is x y u v first second = sym (first is)
    split false position is x y u v first second = sym second

    value : (b : Bool) (position : List ℕ) → Holds box position → in_box other position ≡ b
        → cell_at (kind t) new (place_in box position) ≡ cond b (cell_at (kind t) part (place_in other position)) (cell_at (kind t) old (place_in box position))
        → is_value (kind t) (cell_at (kind t) new (place_in box position)) ≡ true
    value true position holds is same =
        subst (λ c. is_value (kind t) c ≡ true) (sym same) ((HasCells-parts (kind t) part (position_count other.shape) given).1 (place_in other position) (place_in_below other position other_long is))
    value false position holds is same =
        subst (λ c. is_value (kind t) c ≡ true) (sym same) ((HasCells-parts (kind t) old (position_count box.shape) held).1 (place_in box position) (place_in_below box position long holds))

    values : AllValues (kind t) new (position_count box.shape)
    values i lt =
        let at = at_place box long i lt in
        subst (λ j. is_value (kind t) (cell_at (kind t) new j) ≡ true) at.2 (value (in_box other at.0) at.0 at.1 refl (taken.each_cell at.0 at.1))

pub extracts_cells : (t : DataType) (box other : Box) (old new : ArrayData) → IsLong box → IsLong other → LiesInBox other box
    → HasCells (kind t) old (position_count box.shape)
    → ExtractsEach (kind t) box old other new → ExtractsCells (kind t) box old other new
extracts_cells t box other old new long other_long inside held extracted =
    let k = kind t in
    let h = HasCells-cells k old (position_count box.shape) held in
    let made = made_cells t new (position_count other.shape) extracted.has_kind values in
    record {
      held = h.0;
      made = made.0;
      old_is = h.1;
      new_is = made.1;
      count = made.2;
      same = λ position holds.
          let below = place_in_below other position other_long holds in
          let there = place_in_below box position long (holds_inside other box position other_long long inside holds) in
          cells_get k new made.0 made.1 (place_in other position) (omega (arith, made.2))
          ∙ ap Some (extracted.each_cell position holds)
          ∙ sym (cells_get k old h.0 h.1 (place_in box position) (omega (arith, h.2)));
    }
  where
    values : AllValues (kind t) new (position_count other.shape)
    values i lt =
        let at = at_place other other_long i lt in
        let there = place_in_below box at.0 long (holds_inside other box at.0 other_long long inside at.1) in
        subst (λ j. is_value (kind t) (cell_at (kind t) new j) ≡ true) at.2
        (subst (λ c. is_value (kind t) c ≡ true) (sym (extracted.each_cell at.0 at.1)) ((HasCells-parts (kind t) old (position_count box.shape) held).1 (place_in box at.0) there))
