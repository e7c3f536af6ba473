-- Which places of a file of cells the cells of a part of a chunk have, and what may be asked once these were read.
use Rattle.std.proofs.Common.{◌≡◌, ℕ, List, [], ◌∷◌, ◌+◌, ◌-◌, ◌*◌, ◌/◌, ◌≤◌, ◌<◌, zero, suc, true, false, length, refl, sym, subst, ap, ◌∙◌, inl, inr, arith}
use Rattle.std.specs.Prelude.{◌&&◌, ◌^◌, Contains, IfSome, MatchOption, Option, Some, None, map, max, min, nat_le, nat_lt}
use Rattle.std.proofs.Math.Nat.{div-lt_iff_lt-mul, div-mul-le_self, lt-div-mul-add, mul-le-mul_right}
use Rattle.std.proofs.lemmas.Bool.{and_from, and_parts, cases_Bool, false≢true, le-leb, leb-true, lt-ltb, ltb-true}
use Rattle.zarrs_subset.specs.Boxes.{position_count, place, unravel, is_within, in_range, ends, offset_by, overlap_extents, overlap_start, zip_with, InShape}
use Rattle.zarrs_subset.specs.Regions.{Box, Holds, IsLong}
use Rattle.zarrs_subset.proofs.Positions.{in_box-offset_by, place-unravel, unravel_in}
use Rattle.zarrs_chunk_grid.specs.Grids.{box_at}
use Rattle.zarrs_data_type.specs.Kind.{Kind, element_size}
use Rattle.zarrs_storage.specs.Store.{StoreState}
use Rattle.zarrs_codec_chain.specs.Places.{cell_places}
use Rattle.zarrs_engine_calls.specs.Layout.{Layout}
use Rattle.zarrs_engine_calls.specs.ChunkBoxes.{chunk_part}
use Rattle.zarrs_engine_calls.specs.Reach.{MayReadPart}
use Rattle.zarrs_directory.specs.Excerpts.{IsNoExcerpt, MayReadWanted, ReadsExcerpt}
use Rattle.zarrs_directory.specs.declared.excerpt.Wanted.{Wanted}
use Rattle.zarr_arrays.specs.Reading.{ReadsMore}
use Rattle.zarr_arrays.specs.Wanted.{HasCells, IsPlain, IsSpan, ServesRegion}
use Rattle.zarr_arrays.proofs.Asked.{Each, each_more, each_next, same_or_apart}

-- ---- row-major numbers

-- no position of a box has a lower number than its first one
low : (shape start extents p : List ℕ) → is_within start extents p ≡ true → place shape start ≤ place shape p
low [] start extents p holds = omega arith
low (n ∷ shape) [] extents p holds = omega arith
low (n ∷ shape) (s ∷ start) [] p holds = absurd (false≢true holds)
low (n ∷ shape) (s ∷ start) (e ∷ extents) [] holds = absurd (false≢true holds)
low (n ∷ shape) (s ∷ start) (e ∷ extents) (i ∷ p) holds =
    let parts = and_parts (in_range s e i) (is_within start extents p) holds in
    let tests = and_parts (nat_le s i) (nat_lt i (s + e)) parts.0 in
    let first : s * position_count shape ≤ i * position_count shape = mul-le-mul_right (position_count shape) (leb-true s i tests.0) in
    let rest : place shape start ≤ place shape p = low shape start extents p parts.1 in
    omega arith

-- nor a higher one than its last one
high : (shape start extents p : List ℕ) → is_within start extents p ≡ true → place shape p ≤ place shape (map (λ end. end - 1) (ends start extents))
high [] start extents p holds = omega arith
high (n ∷ shape) [] extents [] holds = omega arith
high (n ∷ shape) [] extents (i ∷ p) holds = absurd (false≢true holds)
high (n ∷ shape) (s ∷ start) [] p holds = absurd (false≢true holds)
high (n ∷ shape) (s ∷ start) (e ∷ extents) [] holds = absurd (false≢true holds)
high (n ∷ shape) (s ∷ start) (e ∷ extents) (i ∷ p) holds =
    let parts = and_parts (in_range s e i) (is_within start extents p) holds in
    let tests = and_parts (nat_le s i) (nat_lt i (s + e)) parts.0 in
    let below : i < s + e = ltb-true i (s + e) tests.1 in
    let last : i ≤ s + e - 1 = omega arith in
    let first : i * position_count shape ≤ (s + e - 1) * position_count shape = mul-le-mul_right (position_count shape) last in
    let rest : place shape p ≤ place shape (map (λ end. end - 1) (ends start extents)) = high shape start extents p parts.1 in
    omega arith

-- ---- places of cells

module _ (shape : List ℕ) (cell : ℕ) where
  some_bytes : (n : ℕ) → n < position_count shape * cell → 0 < cell
  some_bytes n below = elim cell as (λ c. n < position_count shape * c → 0 < c) [ zero ↦ λ h. omega (arith, h) | suc c ↦ λ h. omega arith ] below

  cell_below : (n : ℕ) → n < position_count shape * cell → n / cell < position_count shape
  cell_below n below = (div-lt_iff_lt-mul (some_bytes n below)).1 below

  -- the places from the first cell of a part to the last one are those of its cells and more
  pub span_has : (start extents : List ℕ) (first last : ℕ) (wanted : Wanted) → first ≡ place shape start → last ≡ place shape (map (λ end. end - 1) (ends start extents))
      → IsSpan first last (position_count shape) cell wanted → HasCells shape cell (record { start = start; shape = extents }) wanted
  span_has start extents first last wanted is_first is_last spans = record {
    size = spans.size;
    places = λ n below holds.
        let some : 0 < cell = some_bytes n below in
        let k = n / cell in
        let number : place shape (unravel shape k) ≡ k = place-unravel shape k (cell_below n below) in
        let from : place shape start ≤ place shape (unravel shape k) = low shape start extents (unravel shape k) holds in
        let to : place shape (unravel shape k) ≤ place shape (map (λ end. end - 1) (ends start extents)) = high shape start extents (unravel shape k) holds in
        let above : k * cell ≤ n = div-mul-le_self n cell in
        let under : n < k * cell + cell = lt-div-mul-add some in
        let lower : first * cell ≤ k * cell = mul-le-mul_right cell (omega arith) in
        let upper : k * cell ≤ last * cell = mul-le-mul_right cell (omega arith) in
        let start_is : wanted.start ≡ first * cell = spans.start in
        let end_is : wanted.end ≡ (last + 1) * cell = spans.end in
        let next : (last + 1) * cell ≡ last * cell + cell = omega arith in
        (omega arith, omega arith);
  }

-- ---- a part of a chunk

-- a position of a chunk that a region has lies in the part of the chunk that the region has
in_part : (R X C Y p : List ℕ) → length R ≡ length X → length C ≡ length Y → length R ≡ length C → InShape Y p → is_within R X (offset_by C p) ≡ true
    → is_within (zip_with (λ s t. s - t) (overlap_start R C) C) (overlap_extents R X C Y) p ≡ true
in_part [] X [] [] [] long chunk_long same inside holds = refl
in_part [] X [] [] (i ∷ p) long chunk_long same inside holds = absurd inside
in_part [] X [] (y ∷ Y) p long chunk_long same inside holds = absurd (omega arith)
in_part [] X (c ∷ C) Y p long chunk_long same inside holds = absurd (omega arith)
in_part (r ∷ R) X [] Y p long chunk_long same inside holds = absurd (omega arith)
in_part (r ∷ R) [] (c ∷ C) Y p long chunk_long same inside holds = absurd (omega arith)
in_part (r ∷ R) (x ∷ X) (c ∷ C) [] p long chunk_long same inside holds = absurd (omega arith)
in_part (r ∷ R) (x ∷ X) (c ∷ C) (y ∷ Y) [] long chunk_long same inside holds = absurd inside
in_part (r ∷ R) (x ∷ X) (c ∷ C) (y ∷ Y) (i ∷ p) long chunk_long same inside holds =
    let parts = and_parts (in_range r x (c + i)) (is_within R X (offset_by C p)) holds in
    let tests = and_parts (nat_le r (c + i)) (nat_lt (c + i) (r + x)) parts.0 in
    let low : r ≤ c + i = leb-true r (c + i) tests.0 in
    let high : c + i < r + x = ltb-true (c + i) (r + x) tests.1 in
    let below : i < y = inside.0 in
    let from = le-leb (max r c - c) i (omega arith) in
    let to = lt-ltb i (max r c - c + (min (r + x) (c + y) - max r c)) (omega arith) in
    and_from _ _ (and_from _ _ from to) (in_part R X C Y p (omega arith) (omega arith) (omega arith) inside.1 parts.1)

-- ---- what is wanted serves a read

cells_say : (k : Kind) (cell : ℕ) (shape : List ℕ) (part : Box) (value : List ℕ) (n : ℕ) → element_size k ≡ Some cell → cell_places k shape part value n ≡ true
    → (n < length value) × (Holds part (unravel shape (n / cell)))
cells_say k cell shape part value n size is =
    let parts = and_parts (nat_lt n (length value)) _ is in
    let there = subst (λ (o : Option ℕ). elim o [ None ↦ false | Some s ↦ nat_lt (n / s) (position_count shape) && is_within part.start part.shape (unravel shape (n / s)) ] ≡ true) size parts.1 in
    (ltb-true n (length value) parts.0, (and_parts (nat_lt (n / cell) (position_count shape)) _ there).1)

module _ (layout : Layout) (region : Box) (index : List ℕ) where
  chunk : Box
  chunk = box_at layout.grid index

  pub serves_all : ServesRegion layout region index None
  serves_all = record { part = λ value n needed. tt; whole = λ covers size n below. tt }

  pub serves_cells : (cell : ℕ) (wanted : Wanted) → IsLong region → IsLong (box_at layout.grid index) → length region.start ≡ length (box_at layout.grid index).start
      → IsPlain layout cell → HasCells (box_at layout.grid index).shape cell (chunk_part region (box_at layout.grid index)) wanted → ServesRegion layout region index (Some wanted)
  unfolding chunk
  serves_cells cell wanted long chunk_long same plain has = record {
    part = λ value n needed size.
        let says = cells_say layout.kind cell chunk.shape (chunk_part region chunk) value n plain.size (sym (plain.places layout.kind chunk.shape (chunk_part region chunk) value n) ∙ needed) in
        has.places n (subst (λ (m : ℕ). n < m) (size ∙ has.size) says.0) says.1;
    whole = λ covers size n below is.
        let within : n < position_count chunk.shape * cell = subst (λ (m : ℕ). n < m) (is ∙ has.size) below in
        let inside = unravel_in chunk.shape (n / cell) (cell_below chunk.shape cell n within) in
        let there = covers (offset_by chunk.start (unravel chunk.shape (n / cell))) (in_box-offset_by chunk.start chunk.shape (unravel chunk.shape (n / cell)) chunk_long inside) in
        has.places n within (in_part region.start region.shape chunk.start chunk.shape (unravel chunk.shape (n / cell)) long chunk_long same inside there);
  }

  -- what is wanted was read
  may_part : (state : StoreState) (wanted : Option Wanted) → ServesRegion layout region index wanted → MayReadWanted state (layout.key index) wanted
      → state.may_ask (layout.key index) ≡ true → MayReadPart layout region index state
  may_part state wanted serves may asked = record {
    part = record { key = λ long. asked; places = λ long value n at needed. may value n at (serves.part value n needed) };
    whole = λ covers. record { key = λ long. asked; places = λ long value n at below. may value n at (serves.whole covers (length value) n below) };
  }

  pub part_read : (old new : StoreState) (key : List ℕ) (wanted : Option Wanted) → key ≡ layout.key index → ServesRegion layout region index wanted → ReadsExcerpt old new key wanted
      → MayReadPart layout region index new
  part_read old new key wanted is serves reads =
      let asked = subst (λ (k : List ℕ). new.may_ask k ≡ true) is reads.asked in
      elim (cases_Bool (old.may_ask key)) [
        | inl again ↦ may_part new None serves_all (subst (λ (k : List ℕ). MayReadWanted new k None) is (reads.again again)) asked
        | inr first ↦ may_part new wanted serves (subst (λ (k : List ℕ). MayReadWanted new k wanted) is (reads.first first)) asked
      ]

  -- a chunk of whose file as much may be asked as before
  part_kept : (old new : StoreState) (key : List ℕ) (wanted : Option Wanted) → ReadsExcerpt old new key wanted → MayReadPart layout region index old → MayReadPart layout region index new
  part_kept old new key wanted reads before =
      elim (same_or_apart (layout.key index) key) [
        | inl same ↦ elim (cases_Bool (old.may_ask key)) [
          | inl again ↦
              may_part new None serves_all (subst (λ (k : List ℕ). MayReadWanted new k None) (sym same) (reads.again again))
              (subst (λ (k : List ℕ). new.may_ask k ≡ true) (sym same) reads.asked)
          | inr unread ↦
              let never : old.may_ask (layout.key index) ≡ true → ⊥ = λ asked. false≢true (sym unread ∙ ap old.may_ask (sym same) ∙ asked) in
              record {
                part = record { key = λ long. absurd (never (before.part.key long)); places = λ long value n at needed. absurd (never (before.part.key long)) };
                whole = λ covers. record { key = λ long. absurd (never (before.part.key long)); places = λ long value n at below. absurd (never (before.part.key long)) };
              }
        ]
        | inr apart ↦
            let kept = reads.others (layout.key index) apart in
            record {
              part = record {
                key = λ long. kept.asked ∙ before.part.key long;
                places = λ long value n at needed. kept.places n ∙ before.part.places long value n (sym kept.value ∙ at) needed;
              };
              whole = λ covers. record {
                key = λ long. kept.asked ∙ (before.whole covers).key long;
                places = λ long value n at below. kept.places n ∙ (before.whole covers).places long value n (sym kept.value ∙ at) below;
              };
            }
      ]

pub more_read : (layout : Layout) (index : List ℕ) (old new : StoreState) (key : List ℕ) (wanted : Option Wanted) → key ≡ layout.key index → ReadsExcerpt old new key wanted
    → ReadsMore layout index old new
more_read layout index old new key wanted is reads = record {
  parts = λ region other before. part_kept layout region other old new key wanted reads before;
  keys = λ other asked.
      elim (same_or_apart other key) [
        | inl same ↦ inr (same ∙ is)
        | inr apart ↦ inl (sym (reads.others other apart).asked ∙ asked)
      ];
}

-- a list of another length names no chunk
pub other_length_part : (layout : Layout) (region : Box) (index : List ℕ) (state : StoreState) → (length index ≡ layout.grid.dimensions → ⊥)
    → MayReadPart layout region index state
other_length_part layout region index state other = record {
  part = record { key = λ long. absurd (other long.long); places = λ long value n at needed. absurd (other long.long) };
  whole = λ covers. record { key = λ long. absurd (other long.long); places = λ long value n at below. absurd (other long.long) };
}

pub same_more : (layout : Layout) (index : List ℕ) (state : StoreState) → ReadsMore layout index state state
same_more layout index state = record { parts = λ region other before. before; keys = λ key asked. inl asked }

-- ---- a loop over chunks

-- each key that may be asked is that of one of these chunks
abbrev pub AsksOnly : Layout → List (List ℕ) → StoreState → Type 0
AsksOnly layout chunks state = (key : List ℕ) → state.may_ask key ≡ true → (index : List ℕ) × Contains chunks index × (key ≡ layout.key index)

pub asks_none : (layout : Layout) (chunks : List (List ℕ)) (state : StoreState) → IsNoExcerpt state → AsksOnly layout chunks state
asks_none layout chunks state none key asked = absurd (false≢true (sym (none.keys key) ∙ asked))

pub asks_more : (layout : Layout) (chunks : List (List ℕ)) (index : List ℕ) (old new : StoreState) → Contains chunks index → ReadsMore layout index old new
    → AsksOnly layout chunks old → AsksOnly layout chunks new
asks_more layout chunks index old new among more only key asked =
    elim (more.keys key asked) [
      | inl before ↦ only key before
      | inr is ↦ (index, among, is)
    ]

-- the next chunk is read
pub chunk_more : (layout : Layout) (region : Box) (all left rest : List (List ℕ)) (index : List ℕ) (old new : StoreState) → left ≡ index ∷ rest
    → MayReadPart layout region index new → ReadsMore layout index old new → Each (λ i. MayReadPart layout region i old) all left → AsksOnly layout all old
    → Each (λ i. MayReadPart layout region i new) all rest × AsksOnly layout all new
chunk_more layout region all left rest index old new split read more each only = (
  each_more (λ i. MayReadPart layout region i old) (λ i. MayReadPart layout region i new) all left rest index split read (λ i before. more.parts region i before) each,
  asks_more layout all index old new (each_next (λ i. MayReadPart layout region i old) all left rest index split each) more only,
)

-- ---- what the functions find

pub number_found : (shape p : List ℕ) (found : Option ℕ) (n : ℕ) → found ≡ Some n
    → MatchOption found (InShape shape p → 2 ^ 64 ≤ place shape p) (λ m. InShape shape p × (m ≡ place shape p)) → n ≡ place shape p
number_found shape p found n is says =
    (subst (λ (o : Option ℕ). MatchOption o (InShape shape p → 2 ^ 64 ≤ place shape p) (λ m. InShape shape p × (m ≡ place shape p))) is says).1

pub count_found : (shape : List ℕ) (found : Option ℕ) (n : ℕ) → found ≡ Some n
    → MatchOption found (2 ^ 64 ≤ position_count shape) (λ m. m ≡ position_count shape) → n ≡ position_count shape
count_found shape found n is says = subst (λ (o : Option ℕ). MatchOption o (2 ^ 64 ≤ position_count shape) (λ m. m ≡ position_count shape)) is says

pub found_serves : (layout : Layout) (region : Box) (index : List ℕ) (cell : ℕ) (found : Option Wanted) (here part : Box) → here ≡ box_at layout.grid index
    → part ≡ chunk_part region here → IsLong region → IsLong here → length region.start ≡ length here.start → IsPlain layout cell
    → IfSome found (HasCells here.shape cell part) → ServesRegion layout region index found
found_serves layout region index cell None here part is is_part long here_long same plain has = serves_all layout region index
found_serves layout region index cell (Some wanted) here part is is_part long here_long same plain has =
    let has_part = subst (λ (p : Box). HasCells here.shape cell p wanted) is_part has in
    subst (λ (b : Box). IsLong b → length region.start ≡ length b.start → HasCells b.shape cell (chunk_part region b) wanted → ServesRegion layout region index (Some wanted))
    (sym is) (λ (at_long : IsLong (box_at layout.grid index)) at_same at_has. serves_cells layout region index cell wanted long at_long at_same plain at_has) here_long same has_part
