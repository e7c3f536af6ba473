-- The laws of canonical stores and of chunks that decode.
use Rattle.std.proofs.Common.{◌≡◌, ℕ, suc, ◌<◌, true, false, ◌&&◌, List, [], ◌∷◌, length, get_or, Option, Some, None}
use Rattle.std.proofs.Common.{slice_get, refl, sym, ◌∙◌, ap, subst, inl, inr, arith}
use Rattle.std.specs.List.{list_all}
use Rattle.std.proofs.lemmas.Bool.{cases_Bool}
use Rattle.std.proofs.lemmas.List.{same_lists}
use Rattle.std.proofs.lemmas.Option.{slice_get-get_or, slice_get_within}
use Rattle.zarrs_subset.specs.Boxes.{position_count, place, unravel, offset_by}
use Rattle.zarrs_subset.specs.Regions.{Box, IsLong, Holds, place_in}
use Rattle.zarrs_subset.proofs.Positions.{unravel_in, place-unravel, in_box-offset_by, offset_from-by}
use Rattle.zarrs_chunk_grid.specs.Grids.{box_at, has_box}
use Rattle.zarrs_chunk_grid.proofs.Chunks.{box_long}
use Rattle.zarrs_storage.specs.Store.{StoreState}
use Rattle.zarrs_data_type.specs.Cell.{Cell, cell_eq}
use Rattle.zarrs_data_type_kinds.proofs.Same.{eq-cell_eq}
use Rattle.zarrs_engine_calls.specs.Layout.{Layout, IsLawful}
use Rattle.zarrs_engine_calls.specs.Content.{value_at, content, decoded_cells, cell_at_place, chunk_cell, Reads}
use Rattle.zarrs_engine_calls.specs.Refusals.{is_left_out}
use Rattle.zarrs_engine_calls.specs.Canon.{IsCanonicalValue, IsCanonical}
use Rattle.zarrs_engine_calls.specs.Laws.{HaveEqualContent, HaveEqualBytes, ContentIsBytes, CanonicalStoresDecode, EmptyStoresAreCanonical}
use Rattle.zarrs_engine_calls.proofs.Contents.{index_list, content_in_box, absent_fill, content_same}

-- lists of cells with equal cells are one
pub same_cells : (a b : List Cell) → length a ≡ length b → ((k : ℕ) → k < length a → slice_get a k ≡ slice_get b k) → a ≡ b
same_cells a b long same = same_lists a b long (λ k d below.
    let cells : Some (get_or a k d) ≡ Some (get_or b k d) = sym (slice_get-get_or a k d below) ∙ same k below ∙ slice_get-get_or b k d (omega arith) in
    cc)

-- cells that are each the fill value are all fill
all_fill : (fill : Cell) (cells : List Cell) → ((k : ℕ) → k < length cells → slice_get cells k ≡ Some fill) → list_all (λ cell. cell_eq cell fill) cells ≡ true
all_fill fill [] h = refl
all_fill fill (cell ∷ cells) h =
    let first : Some cell ≡ Some fill = h 0 (omega arith) in
    let is : cell ≡ fill = cc in
    ap (λ b. b && list_all (λ cell. cell_eq cell fill) cells) (eq-cell_eq cell fill is) ∙ all_fill fill cells (λ k below. h (suc k) (omega arith))

-- each row-major number of a box is that of a position that it holds
pub at_place : (box : Box) → IsLong box → (k : ℕ) → k < position_count box.shape → (position : List ℕ) × Holds box position × (place_in box position ≡ k)
at_place box long k below =
    let offset = unravel box.shape k in
    let inside = unravel_in box.shape k below in (
      offset_by box.start offset,
      in_box-offset_by box.start box.shape offset long inside,
      ap (place box.shape) (offset_from-by box.start box.shape offset long inside) ∙ place-unravel box.shape k below,
    )

-- what is read over a box is one list
pub reads_one : (f g : List ℕ → Option Cell) (box : Box) (a b : List Cell) → IsLong box
    → ((position : List ℕ) → Holds box position → f position ≡ g position) → Reads f box a → Reads g box b → a ≡ b
reads_one f g box a b long same p q =
    same_cells a b (p.count ∙ sym q.count) (λ k below.
    let here = at_place box long k (subst (λ n. k < n) p.count below) in
    subst (λ k. slice_get a k ≡ slice_get b k) here.2 (sym (p.each here.0 here.1) ∙ same here.0 here.1 ∙ q.each here.0 here.1))

module _ (layout : Layout) where
  -- what is read where the function is the fill value is all fill
  reads_fill : (f : List ℕ → Option Cell) (box : Box) (cells : List Cell) → IsLong box
      → ((position : List ℕ) → Holds box position → f position ≡ Some layout.fill) → Reads f box cells → list_all (λ cell. cell_eq cell layout.fill) cells ≡ true
  reads_fill f box cells long all p =
      all_fill layout.fill cells (λ k below.
      let here = at_place box long k (subst (λ n. k < n) p.count below) in
      subst (λ k. slice_get cells k ≡ Some layout.fill) here.2 (sym (p.each here.0 here.1) ∙ all here.0 here.1))

  -- a canonical encoded is determined by the function
  pub one_value : (f g : List ℕ → Option Cell) (box : Box) (t u : Option (List ℕ)) → IsLong box
      → ((position : List ℕ) → Holds box position → f position ≡ g position) → IsCanonicalValue layout f box t → IsCanonicalValue layout g box u → t ≡ u
  one_value f g box None None long same p q = refl
  one_value f g box None (Some u) long same p q =
      let all = reads_fill g box q.0 long (λ position holds. sym (same position holds) ∙ p position holds) q.1 in
      let clash : true ≡ false = sym all ∙ q.2 in
      absurd (cc)
  one_value f g box (Some t) None long same p q =
      let all = reads_fill f box p.0 long (λ position holds. same position holds ∙ q position holds) p.1 in
      let clash : true ≡ false = sym all ∙ p.2 in
      absurd (cc)
  one_value f g box (Some t) (Some u) long same p q =
      sym p.3 ∙ ap (layout.chain.encoded false layout.kind layout.fill box.shape) (reads_one f g box p.0 q.0 long same p.1 q.1) ∙ q.3

  equal_bytes : (a b : StoreState) → IsCanonical layout (value_at a) → IsCanonical layout (value_at b) → HaveEqualContent layout a b → HaveEqualBytes layout a b
  equal_bytes a b p q same index long =
      elim (cases_Bool (has_box layout.grid index)) [
        | inl has ↦ one_value _ _ (box_at layout.grid index) _ _ (box_long layout.grid index) (λ position holds. same position) (p.boxed index has) (q.boxed index has)
        | inr none ↦ p.unboxed index long none ∙ sym (q.unboxed index long none)
      ]

module _ (layout : Layout) (lawful : IsLawful layout) where
  found_cells : (found : Option (List Cell)) (n : ℕ) (cell : Cell) → cell_at_place found n ≡ Some cell → (cells : List Cell) × (found ≡ Some cells)
  found_cells None n cell is = absurd (cc)
  found_cells (Some cells) n cell is = (cells, refl)

  -- a chunk without a cell is left out
  first_cell : (cells : List Cell) → is_left_out layout false cells ≡ false → (cell : Cell) × (slice_get cells 0 ≡ Some cell)
  first_cell [] is = absurd (cc)
  first_cell (cell ∷ cells) is = (cell, refl)

  -- canonical bytes have a cell, so they decode
  value_of_content : (stored : List ℕ → Option (List ℕ)) (index encoded : List ℕ) → has_box layout.grid index ≡ true → stored (layout.key index) ≡ Some encoded
      → IsCanonicalValue layout (content layout stored) (box_at layout.grid index) (Some encoded) → (cells : List Cell) × (decoded_cells layout (box_at layout.grid index) encoded ≡ Some cells)
  value_of_content stored index encoded has at is =
      let box = box_at layout.grid index in
      let first = first_cell is.0 is.2 in
      let some : 0 < length is.0 = slice_get_within is.0 0 first.0 first.1 in
      let here = at_place box (box_long layout.grid index) 0 (subst (λ n. 0 < n) is.1.count some) in
      found_cells (decoded_cells layout box encoded) (place_in box here.0) first.0
      (sym (content_in_box layout stored lawful index has here.0 here.1 ∙ ap (λ t. chunk_cell layout t box here.0) at)
      ∙ is.1.each here.0 here.1 ∙ ap (slice_get is.0) here.2 ∙ first.1)

-- each chunk of a canonical store decodes
pub canonical_decodes : CanonicalStoresDecode
canonical_decodes layout lawful state canon index encoded has at =
    value_of_content layout lawful (value_at state) index encoded has at
    (subst (IsCanonicalValue layout (content layout (value_at state)) (box_at layout.grid index)) at (canon.boxed index has))

pub content_is_bytes : ContentIsBytes
content_is_bytes layout lawful a b p q = (equal_bytes layout a b p q, content_same layout lawful (value_at a) (value_at b))

pub empty_is_canonical : EmptyStoresAreCanonical
empty_is_canonical layout lawful state none = record {
  boxed = λ index has.
      let absent = none index (index_list layout lawful index has) in
      subst (IsCanonicalValue layout (content layout (value_at state)) (box_at layout.grid index)) (sym absent) (absent_fill layout (value_at state) lawful index has absent);
  unboxed = λ index long boxless. none index long;
}
