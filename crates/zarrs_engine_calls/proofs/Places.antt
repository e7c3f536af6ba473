-- Reads of stores that agree at the places that a read needs.
use Rattle.std.proofs.Common.{◌≡◌, ◌+◌, ◌-◌, ℕ, true, List, [], ◌∷◌, length, Option, Some, None}
use Rattle.std.proofs.Common.{Contains, replicate, max, min, refl, sym, ◌∙◌, ap, subst, inl, inr, arith}
use Rattle.std.specs.Prelude.{nat_eq}
use Rattle.std.specs.Cmp.Lexicographic.{pointwise}
use Rattle.std.proofs.lemmas.Bool.{cases_Bool}
use Rattle.std.proofs.lemmas.Bool.Decides.{nat_tests}
use Rattle.std.proofs.lemmas.Map.Views.{exact_unsigned_eq}
use Rattle.zarrs_subset.specs.Boxes.{offset_by, offset_from, in_range, is_within, overlap_extents, overlap_start, zip_with}
use Rattle.zarrs_subset.specs.Regions.{Box, IsLong, Holds, place_in, positions}
use Rattle.zarrs_chunk_grid.specs.Grids.{box_at, chunks_box, has_box, index_at, is_covered}
use Rattle.zarrs_chunk_grid.proofs.Chunks.{box_covered, box_index, box_is_there, box_long}
use Rattle.zarrs_storage.specs.Store.{StoreState}
use Rattle.zarrs_data_type.specs.Cell.{Cell}
use Rattle.zarrs_data_type.specs.ArrayData.{ArrayData}
use Rattle.zarrs_engine_calls.specs.Layout.{Layout, IsLawful}
use Rattle.zarrs_engine_calls.specs.Content.{value_at, content, cell_at_place, chunk_cell, decoded_cells}
use Rattle.zarrs_engine_calls.specs.Changes.{RetrievesChunk}
use Rattle.zarrs_engine_calls.specs.ChunkBoxes.{CoversBox, chunks_met, is_whole_of, part_box}
use Rattle.zarrs_engine_calls.specs.Reads.{IsBroken, ReadsRegion}
use Rattle.zarrs_engine_calls.specs.ChunkBoxes.{chunk_part}
use Rattle.zarrs_engine_calls.specs.Step.{RetrievesPart}
use Rattle.zarrs_engine_calls.specs.Laws.{DecodesOver}
use Rattle.zarrs_engine_calls.specs.Reached.{AgreeForRead, AgreeInPart, CellsDependOnPlaces, ReadsDependOnPlaces}
use Rattle.zarrs_engine_calls.proofs.Contents.{content_covered, content_uncovered, covered_has_box, in_chunk}
use Rattle.zarrs_engine_calls.proofs.CutLaws.{and_both, and_left, and_right}
use Rattle.zarrs_engine_calls.proofs.Shapes.{first_held}
use Rattle.zarrs_engine_calls.proofs.Reached.{one_boxed, part_has, range_boxed, region_boxed, takes_range, takes_region}

-- a position of a region and of a chunk, seen from the corner of the chunk, lies in their overlap
part_within : (s e t u p : List ℕ) → is_within s e p ≡ true → is_within t u p ≡ true
    → is_within (zip_with (λ s t. s - t) (overlap_start s t) t) (overlap_extents s e t u) (offset_from t p) ≡ true
part_within [] e [] u [] one two = refl
part_within [] e [] u (i ∷ p) one two = absurd (cc)
part_within [] e (z ∷ t) [] p one two = absurd (cc)
part_within [] e (z ∷ t) (w ∷ u) [] one two = absurd (cc)
part_within [] e (z ∷ t) (w ∷ u) (i ∷ p) one two = absurd (cc)
part_within (x ∷ s) [] t u p one two = absurd (cc)
part_within (x ∷ s) (y ∷ e) t u [] one two = absurd (cc)
part_within (x ∷ s) (y ∷ e) [] u (i ∷ p) one two = absurd (cc)
part_within (x ∷ s) (y ∷ e) (z ∷ t) [] (i ∷ p) one two = absurd (cc)
part_within (x ∷ s) (y ∷ e) (z ∷ t) (w ∷ u) (i ∷ p) one two =
    let a : in_range x y i ≡ true = and_left (in_range x y i) (is_within s e p) one in
    let b : in_range z w i ≡ true = and_left (in_range z w i) (is_within t u p) two in
    and_both (in_range (max x z - z) (min (x + y) (z + w) - max x z) (i - z))
    (is_within (zip_with (λ s t. s - t) (overlap_start s t) t) (overlap_extents s e t u) (offset_from t p))
    (grind (arith, nat_tests))
    (part_within s e t u p (and_right (in_range x y i) (is_within s e p) one) (and_right (in_range z w i) (is_within t u p) two))

-- a position of a box, seen from its corner, lies in its shape
shape_within : (t u p : List ℕ) → length t ≡ length u → is_within t u p ≡ true → is_within (replicate (length u) 0) u (offset_from t p) ≡ true
shape_within [] [] [] long within = refl
shape_within [] [] (i ∷ p) long within = absurd (cc)
shape_within [] (w ∷ u) p long within = absurd (omega arith)
shape_within (z ∷ t) [] p long within = absurd (omega arith)
shape_within (z ∷ t) (w ∷ u) [] long within = absurd (cc)
shape_within (z ∷ t) (w ∷ u) (i ∷ p) long within =
    let a : in_range z w i ≡ true = and_left (in_range z w i) (is_within t u p) within in
    and_both (in_range 0 w (i - z)) (is_within (replicate (length u) 0) u (offset_from t p)) (grind (arith, nat_tests))
    (shape_within t u p (omega arith) (and_right (in_range z w i) (is_within t u p) within))

-- a part that is the whole chunk has its box
same_list : (a b : List ℕ) → pointwise nat_eq a b ≡ true → a ≡ b
same_list [] [] same = refl
same_list [] (y ∷ b) same = absurd (cc)
same_list (x ∷ a) [] same = absurd (cc)
same_list (x ∷ a) (y ∷ b) same =
    ap (λ n. n ∷ a) (exact_unsigned_eq x y (and_left (nat_eq x y) (pointwise nat_eq a b) same))
    ∙ ap (λ l. y ∷ l) (same_list a b (and_right (nat_eq x y) (pointwise nat_eq a b) same))

from_origin : (c n : List ℕ) → length c ≡ length n → offset_by c (replicate (length n) 0) ≡ c
from_origin [] n long = refl
from_origin (x ∷ c) [] long = absurd (omega arith)
from_origin (x ∷ c) (y ∷ n) long =
    let here : x + 0 ≡ x = omega arith in
    ap (λ k. k ∷ offset_by c (replicate (length n) 0)) here ∙ ap (λ l. x ∷ l) (from_origin c n (omega arith))

whole_box : (box part : Box) → IsLong box → is_whole_of box.shape part ≡ true → part_box box part ≡ box
whole_box box part long whole =
    let origin = replicate (length box.shape) 0 in
    let start = same_list part.start origin (and_left (pointwise nat_eq part.start origin) (pointwise nat_eq part.shape box.shape) whole) in
    let shape = same_list part.shape box.shape (and_right (pointwise nat_eq part.start origin) (pointwise nat_eq part.shape box.shape) whole) in
    let starts : offset_by box.start part.start ≡ box.start = ap (offset_by box.start) start ∙ from_origin box.start box.shape long in
    λ i. record { start = starts i; shape = shape i }

module _ (layout : Layout) (lawful : IsLawful layout) (region box : Box) (long : IsLong box) where
  part_cell : (position : List ℕ) → Holds region position → Holds box position → (va vb : Option (List ℕ))
      → ((x : List ℕ) → va ≡ Some x → (cs : List Cell) × (decoded_cells layout box x ≡ Some cs))
      → ((y : List ℕ) → vb ≡ Some y → (ds : List Cell) × (decoded_cells layout box y ≡ Some ds))
      → AgreeInPart layout region box va vb → chunk_cell layout vb box position ≡ chunk_cell layout va box position
  part_cell position holds inside None None one two same = refl
  part_cell position holds inside None (Some y) one two same = absurd same
  part_cell position holds inside (Some x) None one two same = absurd same
  part_cell position holds inside (Some x) (Some y) one two same =
      let c = one x refl in
      let d = two y refl in
      let n = place_in box position in
      ap (λ o. cell_at_place o n) d.1
      ∙ lawful.chain.places_decide layout.kind layout.fill box.shape (chunk_part region box) x y c.0 d.0 c.1 d.1 same.0 same.1 (offset_from box.start position)
      (shape_within box.start box.shape position long inside)
      (part_within region.start region.shape box.start box.shape position holds inside)
      ∙ sym (ap (λ o. cell_at_place o n) c.1)

module _ (layout : Layout) (lawful : IsLawful layout) (a b : StoreState) where
  cells_same : (region : Box) → AgreeForRead layout region a b → (position : List ℕ) → Holds region position
      → content layout (value_at b) position ≡ content layout (value_at a) position
  cells_same region agree position holds = elim (cases_Bool (is_covered layout.grid position)) [
    | inr uncovered ↦ content_uncovered layout (value_at b) position uncovered ∙ sym (content_uncovered layout (value_at a) position uncovered)
    | inl covered ↦
        let index = index_at layout.grid position in
        let has = covered_has_box layout lawful position covered in
        let inside = in_chunk layout lawful index position covered refl in
        content_covered layout (value_at b) position covered
        ∙ part_cell layout lawful region (box_at layout.grid index) (box_long layout.grid index) position holds inside
        (value_at a (layout.key index)) (value_at b (layout.key index))
        (λ x at. agree.decodes position x holds covered at) (λ y at. agree.other_decodes position y holds covered at) (agree.places index position has holds inside)
        ∙ sym (content_covered layout (value_at a) position covered)
  ]

  -- a chunk that the region covers is not broken
  sound_over : (region : Box) → DecodesOver layout region b → (index : List ℕ) → has_box layout.grid index ≡ true → CoversBox region (box_at layout.grid index) → IsBroken layout index b → ⊥
  sound_over region decodes index has covers bad =
      let there = box_is_there layout.grid index has in
      let first = (box_at layout.grid index).start in
      let held = first_held layout.grid lawful.grid index has in
      let same = box_index layout.grid lawful.grid index first there held in
      let found = decodes first bad.encoded (covers first held) (box_covered layout.grid lawful.grid index first there held) (ap (λ i. value_at b (layout.key i)) same ∙ bad.stands) in
      let clash : None ≡ Some found.0 = sym bad.undecoded ∙ ap (λ i. decoded_cells layout (box_at layout.grid i) bad.encoded) (sym same) ∙ found.1 in
      cc

  chunk_alike : (index : List ℕ) (held : ArrayData) → AgreeForRead layout (box_at layout.grid index) a b → RetrievesChunk layout index held a → RetrievesChunk layout index held b
  chunk_alike index held agree r = record {
    has_box = r.has_box;
    chunk = r.chunk;
    is_chunk = r.is_chunk;
    reads = record { count = r.reads.count; each = λ position holds. cells_same (box_at layout.grid index) agree position holds ∙ r.reads.each position holds };
  }

  pub region_alike : (region : Box) (chunks : List (List ℕ)) (held : ArrayData) → ((index : List ℕ) → Contains chunks index → has_box layout.grid index ≡ true)
      → AgreeForRead layout region a b → ReadsRegion layout region chunks held a → ReadsRegion layout region chunks held b
  region_alike region chunks held boxes agree r = record {
    given = r.given;
    are_cells = r.are_cells;
    reads = record { count = r.reads.count; each = λ position cell holds is. r.reads.each position cell holds (sym (cells_same region agree position holds) ∙ is) };
    long = r.long;
    covered = r.covered;
    whole = λ index among covers bad. sound_over region agree.other_decodes index (boxes index among) covers bad;
  }

  part_alike : (index : List ℕ) (part : Box) (held : ArrayData) → AgreeForRead layout (part_box (box_at layout.grid index) part) a b
      → RetrievesPart layout index part held a → RetrievesPart layout index part held b
  part_alike index part held agree r =
      let box = box_at layout.grid index in
      record {
        accepted = r.accepted;
        whole = λ is. chunk_alike index held (subst (λ (box : Box). AgreeForRead layout box a b) (whole_box box part (box_long layout.grid index) is) agree) (r.whole is);
        proper = λ is. region_alike (part_box box part) (index ∷ []) held (one_boxed layout index (part_has layout index part r.accepted)) agree (r.proper is);
      }

pub cells_depend_on_places : CellsDependOnPlaces
cells_depend_on_places layout lawful region a b agree = cells_same layout lawful a b region agree

pub reads_depend_on_places : ReadsDependOnPlaces
reads_depend_on_places layout lawful shape a b = record {
  chunk = chunk_alike layout lawful a b;
  part = part_alike layout lawful a b;
  chunks = λ range held long agree r. (
    r.0,
    region_alike layout lawful a b (chunks_box layout.grid range) (positions range) held
        (range_boxed layout lawful range long (takes_range layout shape range r.0)) agree r.1,
  );
  region = λ region held agree r. (
    r.0,
    region_alike layout lawful a b region (chunks_met layout.grid region) held
        (region_boxed layout lawful shape region r.1.long (takes_region layout shape region r.0)) agree r.1,
  );
}
