-- A chunk that takes its part of a region's data.
use Rattle.std.proofs.Common.{◌≡◌, ◌⊎◌, ◌≤◌, ◌*◌, ◌^◌, ℕ, Bool, true, false, cond, nat_le, List, length, replicate}
use Rattle.std.proofs.Common.{Some, None, refl, sym, ◌∙◌, ap, subst, inl, inr, arith}
use Rattle.std.proofs.lemmas.Bool.{cases_Bool, leb-true, leb-false}
use Rattle.std.proofs.lemmas.List.{length-replicate}
use Rattle.std.proofs.lemmas.List.Folds.{sum_by-replicate}
use Rattle.zarrs_subset.specs.Boxes.{position_count}
use Rattle.zarrs_subset.specs.Regions.{Box, Holds, IsLong, cell_in, in_box, place_in, LiesInBox}
use Rattle.zarrs_subset.proofs.Bytes.{along_holds, holds_along, place_in_below}
use Rattle.zarrs_chunk_grid.specs.Grids.{box_at, has_box}
use Rattle.zarrs_chunk_grid.proofs.Chunks.{box_long}
use Rattle.zarrs_storage.specs.Store.{StoreState}
use Rattle.zarrs_data_type.specs.Kind.{Kind, cell_size}
use Rattle.zarrs_data_type.specs.Cell.{Cell, bytes, none, some, held_size}
use Rattle.zarrs_data_type.specs.ArrayData.{ArrayData}
use Rattle.zarrs_data_type.specs.Cells.{HasCells}
use Rattle.zarrs_data_type_bytes.proofs.Cells.{HasCells-cells}
use Rattle.zarrs_data_type.specs.Parts.{TakesCells, ExtractsCells}
use Rattle.zarrs_engine_calls.specs.Layout.{Layout, IsLawful}
use Rattle.zarrs_engine_calls.specs.Content.{value_at, content}
use Rattle.zarrs_engine_calls.specs.Refusals as refusal
use Rattle.zarrs_engine_calls.specs.Refusals.{Refusal, fill_refusal, is_too_large, length_refusal, refuse_if}
use Rattle.zarrs_engine_calls.specs.Changes.{RetrievesChunk}
use Rattle.zarrs_engine_calls.specs.ChunkBoxes.{CoversBox}
use Rattle.zarrs_engine_calls.specs.StateRefusals.{IsLargeBox, IsPart, NeedsLargeFill, RefusesChunkRead, RefusesPart, cell_length, known_cell}
use Rattle.zarrs_engine_calls.proofs.Contents.{absent_fill, fill_at, replicated}
use Rattle.zarrs_engine_calls.proofs.RefusalLemmas.{not_large}
use Rattle.zarrs_engine.specs.RegionWrites.{HasUpdated}
use Rattle.zarrs_engine_layout.proofs.Chunks.{unread_why}

-- ---- boxes

-- a box that lies in another has no position outside it
pub lies_covers : (box other : Box) → IsLong box → IsLong other → LiesInBox box other → CoversBox other box
lies_covers box other long other_long lies = λ position holds.
    let inside = holds_along box position long holds in
    let same = lies.same_length in
    along_holds other position other_long (record {
      same_length = inside.same_length ∙ same;
      from = λ k below. let a = lies.starts k below in let b = inside.from k (omega (arith, same)) in omega arith;
      below = λ k below. let a = lies.ends k below in let b = inside.below k (omega (arith, same)) in omega arith;
    })

-- ---- what a chunk is after it took its part

module _ (layout : Layout) (region : Box) (held : ArrayData) (index : List ℕ) (state : StoreState) where
  -- the region covers the chunk
  pub updated_whole : (made : ArrayData) → CoversBox region (box_at layout.grid index) → ExtractsCells layout.kind region held (box_at layout.grid index) made → HasUpdated layout region held index state made
  updated_whole made covers e = record {
    chunk = e.made;
    is_chunk = e.new_is;
    updated = record {
      given = e.held;
      are_cells = e.old_is;
      count = e.count;
      each = λ position holds.
          e.same position holds ∙ sym (ap (λ b. cond b (cell_in region e.held position) (content layout (value_at state) position)) (covers position holds));
    };
  }

  -- the region is the chunk
  pub updated_same : region ≡ box_at layout.grid index → HasCells layout.kind held (position_count region.shape) → HasUpdated layout region held index state held
  updated_same is given =
      let found = HasCells-cells layout.kind held (position_count region.shape) given in
      let box = box_at layout.grid index in
      record {
        chunk = found.0;
        is_chunk = found.1;
        updated = record {
          given = found.0;
          are_cells = found.1;
          count = found.2 ∙ ap (λ (b : Box). position_count b.shape) is;
          each = λ position holds.
              let inside : in_box region position ≡ true = ap (λ (b : Box). in_box b position) is ∙ holds in
              ap (λ (b : Box). cell_in b found.0 position) (sym is)
              ∙ sym (ap (λ b. cond b (cell_in region found.0 position) (content layout (value_at state) position)) inside);
        };
      }

  -- the chunk was read
  pub updated_part : (before made : ArrayData) → RetrievesChunk layout index before state → TakesCells layout.kind (box_at layout.grid index) region held before made → HasUpdated layout region held index state made
  updated_part before made r t =
      let one : Some t.held ≡ Some r.chunk = sym t.old_is ∙ r.is_chunk in
      let same : t.held ≡ r.chunk = cc in
      record {
        chunk = t.made;
        is_chunk = t.new_is;
        updated = record {
          given = t.given;
          are_cells = t.part_is;
          count = t.count ∙ ap (λ (cs : List Cell). length cs) same ∙ r.reads.count;
          each = λ position holds.
              t.takes position holds
              ∙ ap (λ o. cond (in_box region position) (cell_in region t.given position) o)
              (ap (λ (cs : List Cell). cell_in (box_at layout.grid index) cs position) same ∙ sym (r.reads.each position holds));
        };
      }

-- ---- why a chunk that has to be read is refused

-- a fill value takes the bytes of a cell, or its own
held_is : (k : Kind) (c : Cell) → (held_size k c ≡ cell_size k) ⊎ (held_size k c ≡ cell_length c)
held_is k (bytes b) = elim (cases_Bool (nat_le (cell_size k) (length b))) [
  | inl less ↦ inr (let l = leb-true (cell_size k) (length b) less in omega arith)
  | inr more ↦ inl (let m = leb-false (cell_size k) (length b) more in omega arith)
]
held_is k none = inl refl
held_is k (some c) = held_is k c

-- as many fill values are too large
fill_count : (layout : Layout) (shape : List ℕ) → fill_refusal layout shape ≡ Some refusal.size_overflow → 2 ^ 64 ≤ position_count shape * held_size layout.kind layout.fill
fill_count layout shape said =
    elim (cases_Bool (nat_le (2 ^ 64) (position_count shape * held_size layout.kind layout.fill))) [
      | inl large ↦ leb-true (2 ^ 64) (position_count shape * held_size layout.kind layout.fill) large
      | inr small ↦ absurd (let clash : None ≡ Some refusal.size_overflow = sym (ap (λ b. refuse_if b refusal.size_overflow) small) ∙ said in cc)
    ]

-- a region of fill alone is too large
pub large_region : (layout : Layout) (region : Box) (state : StoreState) → IsLong region → is_too_large layout region.shape ≡ false
    → ((position : List ℕ) → Holds region position → content layout (value_at state) position ≡ Some layout.fill) → fill_refusal layout region.shape ≡ Some refusal.size_overflow
    → IsLargeBox layout region state
large_region layout region state long fit filled said =
    let n = position_count region.shape in
    let given = replicate n layout.fill in
    let count : length given ≡ n = length-replicate n layout.fill in
    let large = fill_count layout region.shape said in
    let size : 2 ^ 64 ≤ n * cell_length layout.fill = elim (held_is layout.kind layout.fill) [
      | inl is ↦ absurd (let small = not_large layout region.shape fit in let more = subst (λ s. 2 ^ 64 ≤ n * s) is large in omega arith)
      | inr is ↦ subst (λ s. 2 ^ 64 ≤ n * s) is large
    ] in
    let sums = sum_by-replicate cell_length n layout.fill in (
      given,
      record {
        count = count;
        each = λ position holds.
            let below = place_in_below region position long holds in
            ap (λ o. Some (known_cell o)) (filled position holds) ∙ sym (fill_at layout.fill given (place_in region position) (replicated layout.fill n) (omega (arith, count)));
      },
      subst (λ s. 2 ^ 64 ≤ s) (sym sums) size,
    )

module _ (layout : Layout) (lawful : IsLawful layout) (keep : Bool) (region : Box) (held : ArrayData) (index : List ℕ) (state : StoreState)
    (has : has_box layout.grid index ≡ true) (fit : is_too_large layout (box_at layout.grid index).shape ≡ false) (part : IsPart layout region index) where
  fill_fails : fill_refusal layout (box_at layout.grid index).shape ≡ Some refusal.size_overflow → (value_at state (layout.key index) ≡ None) ⊎ NeedsLargeFill layout index state → RefusesPart layout keep region held index 0 state refusal.size_overflow
  fill_fails said (inl absent) =
      let filled = large_region layout (box_at layout.grid index) state (box_long layout.grid index) fit (λ position holds. absent_fill layout (value_at state) lawful index has absent position holds) said in
      (refl, inr (inl (part, inl filled)))
  fill_fails said (inr needs) = (refl, inr (inl (part, inr needs)))

  -- the chunk cannot be read
  pub read_fails : (r : Refusal) → RefusesChunkRead layout (length_refusal layout index) true index state r → RefusesPart layout keep region held index 0 state r
  read_fails =
      unread_why layout index state has fit (RefusesPart layout keep region held index 0 state) tt (λ broken. (refl, fit, inl (part, broken))) fill_fails (λ refuses. inl (refl, fit, part, refuses))
