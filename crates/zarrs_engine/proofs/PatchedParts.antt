-- The part of a region that lies in one chunk, written by itself.
use Rattle.std.proofs.Common.{◌≡◌, ℕ, suc, ◌+◌, ◌-◌, ◌<◌, ◌≤◌, Bool, true, false, cond, ◌&&◌, List, [], ◌∷◌, length, slice_index, min, max, Some, refl, sym, ap, subst, ◌∙◌, arith}
use Rattle.std.specs.Prelude.{Contains, IsSomeAnd}
use Rattle.zarrs_subset.specs.Boxes.{position_count, offset_by, overlap_extents, overlap_start, zip_with}
use Rattle.zarrs_subset.specs.Regions.{Box, IsLong, LiesInShape, cell_in, in_box, overlap_of, seen_from, LiesInBox}
use Rattle.zarrs_subset.specs.Refusals.{RefusesOffset}
use Rattle.zarrs_subset.specs.declared.error.ArraySubsetError.{ArraySubsetError}
use Rattle.zarrs_subset.specs.declared.error.ArraySubsetError.TheVariants as subset
use Rattle.zarrs_subset.proofs.Overlaps.{in_box-overlap, length-overlap_extents, length-zip_with}
use Rattle.zarrs_subset.proofs.Parts.{overlap_extents-at, zip_with-at}
use Rattle.zarrs_chunk_grid.specs.Grids.{box_at}
use Rattle.zarrs_storage.specs.Store.{StoreState}
use Rattle.zarrs_data_type.specs.Cell.{Cell}
use Rattle.zarrs_data_type.specs.ArrayData.{ArrayData}
use Rattle.zarrs_data_type.specs.Cells.{HasCells, cells}
use Rattle.zarrs_data_type.specs.Parts.{ExtractsCells}
use Rattle.zarrs_engine_calls.specs.Layout.{Layout}
use Rattle.zarrs_engine_calls.specs.Content.{value_at, content, Reads}
use Rattle.zarrs_engine_calls.specs.Errors.{error_of_subset}
use Rattle.zarrs_engine_calls.specs.Refusals.{Refusal, out_of_memory, refusal_of}
use Rattle.zarrs_engine_calls.specs.ChunkBoxes.{part_box}
use Rattle.zarrs_engine_calls.specs.Patches.{HoldsPart, PatchesAll}
use Rattle.zarrs_engine_calls.specs.ChunkBoxes.{chunk_part}
use Rattle.zarrs_engine_calls.proofs.Contents.{member, only_member}
use Rattle.zarrs_engine.specs.Patches.{LeavesPartly, LeavesPatch, PatchesChunk, Shares}
use Rattle.zarrs_engine_calls.proofs.PartCounts.{made_as}
use Rattle.zarrs_engine.proofs.PatchRefusals.{partly_leaves_patch}
use Rattle.zarrs_engine.proofs.PatchedChunks.{overlap_inside}

-- what is seen from a corner and put there again is what it was
offset_back : (b s : List ℕ) → length s ≡ length b → ((k : ℕ) → k < length b → slice_index b k ≤ slice_index s k) → offset_by b (zip_with (λ s t. s - t) s b) ≡ s
offset_back [] [] same above = refl
offset_back [] (x ∷ s) same above = absurd (omega arith)
offset_back (a ∷ b) [] same above = absurd (omega arith)
offset_back (a ∷ b) (x ∷ s) same above =
    let first : a ≤ x = above 0 (omega arith) in
    let here : a + (x - a) ≡ x = omega arith in
    ap (λ v. v ∷ offset_by b (zip_with (λ s t. s - t) s b)) here
    ∙ ap (λ (l : List ℕ). x ∷ l) (offset_back b s (omega arith) (λ k below. above (suc k) (omega arith)))

module _ (region chunk : Box) (long : IsLong region) (chunk_long : IsLong chunk) (same : length region.start ≡ length chunk.start) where
  abbrev shared : Box
  shared = overlap_of region chunk

  starts_len : length (overlap_start region.start chunk.start) ≡ length region.start
  starts_len = length-zip_with (λ s t. max s t) region.start chunk.start same

  extents_len : length (overlap_extents region.start region.shape chunk.start chunk.shape) ≡ length region.start
  extents_len = length-overlap_extents region.start region.shape chunk.start chunk.shape long chunk_long same

  start_at : (k : ℕ) → k < length region.start → slice_index shared.start k ≡ max (slice_index region.start k) (slice_index chunk.start k)
  start_at k below = zip_with-at (λ s t. max s t) region.start chunk.start k below (omega (arith, same))

  extent_at : (k : ℕ) → k < length region.start
      → slice_index shared.shape k ≡ min (slice_index region.start k + slice_index region.shape k) (slice_index chunk.start k + slice_index chunk.shape k) - max (slice_index region.start k) (slice_index chunk.start k)
  extent_at k below = overlap_extents-at region.start region.shape chunk.start chunk.shape k long chunk_long same below

  -- the part is seen from the chunk's origin: only memory may be short
  pub offset_memory : (e : ArraySubsetError) → RefusesOffset shared.start chunk.start e → refusal_of (error_of_subset e) ≡ out_of_memory
  offset_memory (subset.IncompatibleDimensionality mismatch) why = absurd (why.0 (sym (starts_len ∙ same)))
  offset_memory subset.EndOverflow why = absurd why
  offset_memory subset.EndBelowStart why = absurd why
  offset_memory subset.StartBelowOffset (equal, (k, below, under)) = absurd (let a = start_at k (omega (arith, same)) in omega arith)
  offset_memory subset.OutOfMemory why = refl

  module _ (positive : Shares region chunk) where
    pub shared_in_region : LiesInBox shared region
    shared_in_region = record {
      same_length = starts_len;
      starts = λ k below. let a = start_at k below in omega arith;
      ends = λ k below. let a = start_at k below in let b = extent_at k below in let c = positive k below in omega arith;
    }

    -- the part, seen from the chunk's origin
    abbrev part : Box
    part = seen_from shared chunk.start

    part_start_len : length part.start ≡ length chunk.start
    part_start_len = length-zip_with (λ s t. s - t) shared.start chunk.start (starts_len ∙ same) ∙ starts_len ∙ same

    part_start_at : (k : ℕ) → k < length chunk.start → slice_index part.start k ≡ slice_index shared.start k - slice_index chunk.start k
    part_start_at k below = zip_with-at (λ s t. s - t) shared.start chunk.start k (omega (arith, starts_len, same)) below

    pub part_lies : LiesInShape part chunk.shape
    part_lies = record {
      same_length = part_start_len ∙ chunk_long;
      ends = λ k below.
          let near : k < length region.start = omega (arith, same, chunk_long) in
          let a = start_at k near in
          let b = extent_at k near in
          let c = positive k near in
          let d = part_start_at k (omega (arith, chunk_long)) in
          omega arith;
    }

    part_back : part_box chunk part ≡ shared
    part_back = ap (λ (start : List ℕ). record { start = start; shape = shared.shape })
        (offset_back chunk.start shared.start (starts_len ∙ same) (λ k below. let a = start_at k (omega (arith, same)) in omega arith))

    -- the chunk has all of it
    shared_inside : overlap_of shared chunk ≡ shared
    shared_inside = subst (λ (b : Box). overlap_of b chunk ≡ b) part_back
        (overlap_inside chunk part chunk_long (part_start_len ∙ sym same ∙ sym extents_len) part_lies)

    module _ (layout : Layout) (keep : Bool) (itself : List ℕ → Type 0) (index : List ℕ) (is : itself index) (chunk_is : chunk ≡ box_at layout.grid index)
        (held made : ArrayData) (e : ExtractsCells layout.kind region held shared made)
        (count : (cs : List Cell) → cells layout.kind held ≡ Some cs → length cs ≡ position_count region.shape) (old new : StoreState) where
      -- so what its key holds for the part is what it holds for the region
      region_holds : (given : List Cell) → given ≡ e.made → HoldsPart layout keep shared given index old new → HoldsPart layout keep region e.held index old new
      region_holds given given_is h =
          let box = box_at layout.grid index in
          let here = subst (λ (b : Box). Reads (cell_in shared given) (overlap_of shared b) h.taken) (sym chunk_is) h.reads in
          let all = subst (λ (b : Box). Reads (cell_in shared given) b h.taken) shared_inside here in
          let there : Reads (cell_in region e.held) shared h.taken = record {
            count = all.count;
            each = λ position holds. sym (e.same position holds) ∙ ap (λ (cs : List Cell). cell_in shared cs position) (sym given_is) ∙ all.each position holds;
          } in
          let part_same : chunk_part shared box ≡ chunk_part region box =
          ap (chunk_part shared) (sym chunk_is) ∙ ap (λ (b : Box). seen_from b chunk.start) shared_inside ∙ ap (chunk_part region) chunk_is in
          record {
            taken = h.taken;
            reads = subst (λ (b : Box). Reads (cell_in region e.held) (overlap_of region b) h.taken) chunk_is there;
            change = h.change;
            encoded = subst (λ (b : Box). layout.chain.partly_encoded keep layout.kind layout.fill box.shape (value_at old (layout.key index)) b h.taken ≡ Some h.change) part_same h.encoded;
            held = h.held;
          }

      -- the cells that were taken out are those of the region in this chunk
      pub patched_region : PatchesAll layout keep (λ i. Unit {0}) (part_box chunk part) made (index ∷ []) old new → PatchesAll layout keep itself region held (index ∷ []) old new
      patched_region p =
          let q = subst (λ (b : Box). PatchesAll layout keep (λ i. Unit {0}) b made (index ∷ []) old new) part_back p in
          let one : Some q.takes.given ≡ Some e.made = sym q.takes.are_cells ∙ e.new_is in
          let given_is : q.takes.given ≡ e.made = cc in
          record {
            takes = record {
              given = e.held;
              are_cells = e.old_is;
              count = count e.held e.old_is;
              patches = record {
                boxed = q.takes.patches.boxed;
                keys = q.takes.patches.keys;
                whole = λ i among not. absurd (not (here i among));
                partly = λ i among _.
                    subst (λ (j : List ℕ). HoldsPart layout keep region e.held j old new) (sym (only_member index i among))
                    (region_holds q.takes.given given_is (q.takes.patches.partly index (member index) tt));
                inside = λ i among known position holds.
                    let inside : in_box chunk position ≡ true =
                    ap (λ (b : Box). in_box b position) (chunk_is ∙ ap (box_at layout.grid) (sym (only_member index i among))) ∙ holds in
                    let both : in_box shared position ≡ in_box region position =
                    in_box-overlap region.start region.shape chunk.start chunk.shape position long chunk_long same
                    ∙ ap (λ b. in_box region position && b) inside
                    ∙ and_true (in_box region position) in
                    q.takes.patches.inside i among (λ _. known (here i among)) position holds
                    ∙ ap (λ (cs : List Cell). cond (in_box shared position) (cell_in shared cs position) (content layout (value_at old) position)) given_is
                    ∙ taken (in_box shared position) position refl
                    ∙ ap (λ b. cond b (cell_in region e.held position) (content layout (value_at old) position)) both;
              };
            };
            makes = made_as (λ i. Unit {0}) itself (index ∷ []) 1 0 old new (λ i among _. here i among) q.makes;
          }
        where
          here : (i : List ℕ) → Contains (index ∷ []) i → itself i
          here i among = subst itself (sym (only_member index i among)) is

          and_true : (b : Bool) → b && true ≡ b
          and_true true = refl
          and_true false = refl

          taken : (b : Bool) (position : List ℕ) → in_box shared position ≡ b → cond b (cell_in shared e.made position) (content layout (value_at old) position) ≡ cond b (cell_in region e.held position) (content layout (value_at old) position)
          taken true position at = e.same position at
          taken false position at = refl

-- the same of the boxes that the code makes
module _ (region chunk shared part : Box) (long : IsLong region) (chunk_long : IsLong chunk) (same : length region.start ≡ length chunk.start)
    (shared_is : shared ≡ overlap_of region chunk) where
  pub offset_short : (e : ArraySubsetError) → RefusesOffset shared.start chunk.start e → refusal_of (error_of_subset e) ≡ out_of_memory
  offset_short e why = offset_memory region chunk long chunk_long same e (subst (λ (b : Box). RefusesOffset b.start chunk.start e) shared_is why)

  module _ (positive : Shares region chunk) where
    pub shared_lies : LiesInBox shared region
    shared_lies = subst (λ (b : Box). LiesInBox b region) (sym shared_is) (shared_in_region region chunk long chunk_long same positive)

    module _ (part_is : part ≡ seen_from shared chunk.start) where
      seen : part ≡ chunk_part region chunk
      seen = part_is ∙ ap (λ (b : Box). seen_from b chunk.start) shared_is

      pub part_inside : LiesInShape part chunk.shape
      part_inside = subst (λ (b : Box). LiesInShape b chunk.shape) (sym seen) (part_lies region chunk long chunk_long same positive)

      pub part_counts : position_count part.shape ≡ position_count shared.shape
      part_counts = ap (λ (b : Box). position_count b.shape) part_is

      module _ (layout : Layout) (keep : Bool) (itself : List ℕ → Type 0) (index : List ℕ) (is : itself index) (chunk_is : chunk ≡ box_at layout.grid index)
          (held made : ArrayData) (e : ExtractsCells layout.kind region held shared made) (old new : StoreState) where
        extracts : ExtractsCells layout.kind region held (overlap_of region chunk) made
        extracts = subst (λ (b : Box). ExtractsCells layout.kind region held b made) shared_is e

        pub patched_shared : HasCells layout.kind held (position_count region.shape) → PatchesChunk layout keep index part made old new → PatchesAll layout keep itself region held (index ∷ []) old new
        patched_shared given p =
            let here = subst (λ (b : Box). PatchesAll layout keep (λ i. Unit {0}) (part_box b part) made (index ∷ []) old new) (sym chunk_is) p in
            let there = subst (λ (b : Box). PatchesAll layout keep (λ i. Unit {0}) (part_box chunk b) made (index ∷ []) old new) seen here in
            let count : (cs : List Cell) → cells layout.kind held ≡ Some cs → length cs ≡ position_count region.shape =
            λ cs at. subst (λ o. IsSomeAnd o (λ (xs : List Cell). length xs ≡ position_count region.shape)) at given in
            patched_region region chunk long chunk_long same positive layout keep itself index is chunk_is held made extracts count old new there

        pub shared_left : (r : Refusal) → LeavesPartly layout keep index part made r old new → LeavesPatch layout keep itself region held index r old new
        shared_left r l =
            partly_leaves_patch layout keep itself region held index part made (seen ∙ ap (chunk_part region) chunk_is)
            (subst (λ (b : Box). ExtractsCells layout.kind region held (overlap_of region b) made) chunk_is extracts) r old new is l
