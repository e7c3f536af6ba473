-- A chunk of which a part was written by itself.
use Rattle.std.proofs.Common.{◌≡◌, ℕ, suc, ◌+◌, ◌-◌, ◌<◌, ◌≤◌, Bool, true, cond, ◌&&◌, List, [], ◌∷◌, length, replicate, max, min, slice_index, Option, Some, None, refl, sym, ap, subst, ◌∙◌, arith}
use Rattle.std.specs.Prelude.{IsSome, option_and_then, slice_get}
use Rattle.std.proofs.lemmas.Bool.{and_parts, leb-true}
use Rattle.std.proofs.lemmas.Bool.Decides.{nat_tests}
use Rattle.zarrs_subset.specs.Boxes.{position_count, InShape, in_range, is_within, offset_by, offset_from, overlap_extents, overlap_start, place, zip_with}
use Rattle.zarrs_subset.specs.Regions.{Box, Holds, IsLong, LiesInShape, box_at_origin, cell_in, in_box, overlap_of, place_in, seen_from}
use Rattle.zarrs_subset.proofs.Positions.{offset_from-in}
use Rattle.zarrs_chunk_grid.specs.Grids.{box_at, has_box}
use Rattle.zarrs_chunk_grid.proofs.Chunks.{box_long}
use Rattle.zarrs_storage.specs.Store.{StoreState}
use Rattle.zarrs_data_type.specs.Kind.{Kind}
use Rattle.zarrs_data_type.specs.Cell.{Cell}
use Rattle.zarrs_data_type.specs.ArrayData.{ArrayData}
use Rattle.zarrs_data_type.specs.Cells.{HasCells, cells}
use Rattle.zarrs_data_type.specs.Parts.{ExtractsCells}
use Rattle.zarrs_data_type_bytes.proofs.Cells.{cells-values, HasCells-cells}
use Rattle.zarrs_codec_shard.specs.PartialShards.{PartialChange, after, IsUpdated}
use Rattle.zarrs_codec_chain.specs.Chain.{chunk_cells, partial_encoding}
use Rattle.zarrs_engine_calls.specs.Layout.{Layout, IsLawful}
use Rattle.zarrs_engine_calls.specs.Content.{value_at, content, Reads}
use Rattle.zarrs_engine_calls.specs.ChunkBoxes.{part_box}
use Rattle.zarrs_engine_calls.specs.Patches.{HoldsPart, known_cells}
use Rattle.zarrs_engine_calls.specs.ChunkBoxes.{chunk_part}
use Rattle.zarrs_engine_calls.proofs.Contents.{only_member, reads_absent, reads_decoded}
use Rattle.zarrs_engine_calls.proofs.Loops.{put_changes}
use Rattle.zarrs_engine_layout.proofs.CutWalks.{number_is}
use Rattle.zarrs_engine.specs.Patches.{PatchesChunk, PutsPart}
use Rattle.zarrs_engine_calls.proofs.PartCounts.{one_named}

-- ---- positions of a chunk, seen from its origin

-- the offset from a corner of a part is that from the part's start, seen from the chunk
offset_twice : (b s p : List ℕ) → length s ≡ length b → length p ≡ length b → offset_from (offset_by b s) p ≡ offset_from s (offset_from b p)
offset_twice [] [] p same long = refl
offset_twice [] (x ∷ s) p same long = absurd (omega arith)
offset_twice (a ∷ b) [] p same long = absurd (omega arith)
offset_twice (a ∷ b) (x ∷ s) [] same long = absurd (omega arith)
offset_twice (a ∷ b) (x ∷ s) (i ∷ p) same long =
    let here : i - (a + x) ≡ i - a - x = omega arith in
    ap (λ v. v ∷ offset_from (offset_by b s) p) here ∙ ap (λ (l : List ℕ). (i - a - x) ∷ l) (offset_twice b s p (omega arith) (omega arith))

range_moved : (a n x e i : ℕ) → in_range a n i ≡ true → in_range (a + x) e i ≡ in_range x e (i - a)
range_moved a n x e i inside = let from = leb-true a i (and_parts _ _ inside).0 in grind (arith, nat_tests)

-- so a position of the chunk lies in a part if it does, seen from the chunk's origin
within_moved : (b n s e p : List ℕ) → length s ≡ length b → is_within b n p ≡ true → is_within (offset_by b s) e p ≡ is_within s e (offset_from b p)
within_moved [] n [] e [] same inside = refl
within_moved [] n [] e (i ∷ p) same inside = absurd (cc)
within_moved [] n (x ∷ s) e p same inside = absurd (omega arith)
within_moved (a ∷ b) n [] e p same inside = absurd (omega arith)
within_moved (a ∷ b) [] (x ∷ s) e p same inside = absurd (cc)
within_moved (a ∷ b) (m ∷ n) (x ∷ s) e [] same inside = absurd (cc)
within_moved (a ∷ b) (m ∷ n) (x ∷ s) [] (i ∷ p) same inside = refl
within_moved (a ∷ b) (m ∷ n) (x ∷ s) (f ∷ e) (i ∷ p) same inside =
    let parts = and_parts (in_range a m i) (is_within b n p) inside in
    ap (λ t. t && is_within (offset_by b s) e p) (range_moved a m x f i parts.0)
    ∙ ap (λ t. in_range x f (i - a) && t) (within_moved b n s e p (omega arith) parts.1)

within_long : (b n p : List ℕ) → is_within b n p ≡ true → length p ≡ length b
within_long [] n [] inside = refl
within_long [] n (i ∷ p) inside = absurd (cc)
within_long (a ∷ b) [] p inside = absurd (cc)
within_long (a ∷ b) (m ∷ n) [] inside = absurd (cc)
within_long (a ∷ b) (m ∷ n) (i ∷ p) inside = let rest = within_long b n p (and_parts (in_range a m i) (is_within b n p) inside).1 in omega arith

holds_origin : (s p : List ℕ) → InShape s p → is_within (replicate (length s) 0) s p ≡ true
holds_origin [] [] is = refl
holds_origin [] (i ∷ p) is = absurd is
holds_origin (n ∷ s) [] is = absurd is
holds_origin (n ∷ s) (i ∷ p) is =
    let below : i < n = is.0 in
    let here : in_range 0 n i ≡ true = grind (arith, nat_tests) in
    ap (λ t. t && is_within (replicate (length s) 0) s p) here ∙ holds_origin s p is.1

-- ---- a part inside a chunk is the part that its box has of it

-- along each dimension the part ends in the chunk
abbrev Ends : List ℕ → List ℕ → List ℕ → Type 0
Ends s e n = (k : ℕ) → k < length n → slice_index s k + slice_index e k ≤ slice_index n k

start_inside : (c s : List ℕ) → length s ≡ length c → overlap_start (offset_by c s) c ≡ offset_by c s
start_inside [] [] same = refl
start_inside [] (x ∷ s) same = absurd (omega arith)
start_inside (a ∷ c) [] same = absurd (omega arith)
start_inside (a ∷ c) (x ∷ s) same =
    let here : max (a + x) a ≡ a + x = omega arith in
    ap (λ v. v ∷ overlap_start (offset_by c s) c) here ∙ ap (λ (l : List ℕ). (a + x) ∷ l) (start_inside c s (omega arith))

seen_inside : (c s : List ℕ) → length s ≡ length c → zip_with (λ s t. s - t) (offset_by c s) c ≡ s
seen_inside [] [] same = refl
seen_inside [] (x ∷ s) same = absurd (omega arith)
seen_inside (a ∷ c) [] same = absurd (omega arith)
seen_inside (a ∷ c) (x ∷ s) same =
    let here : a + x - a ≡ x = omega arith in
    ap (λ v. v ∷ zip_with (λ s t. s - t) (offset_by c s) c) here ∙ ap (λ (l : List ℕ). x ∷ l) (seen_inside c s (omega arith))

shape_inside : (c n s e : List ℕ) → length c ≡ length n → length s ≡ length n → length e ≡ length n → Ends s e n
    → overlap_extents (offset_by c s) e c n ≡ e
shape_inside [] [] [] [] long same wide ends = refl
shape_inside [] [] [] (y ∷ e) long same wide ends = absurd (omega arith)
shape_inside [] [] (x ∷ s) e long same wide ends = absurd (omega arith)
shape_inside [] (m ∷ n) s e long same wide ends = absurd (omega arith)
shape_inside (a ∷ c) [] s e long same wide ends = absurd (omega arith)
shape_inside (a ∷ c) (m ∷ n) [] e long same wide ends = absurd (omega arith)
shape_inside (a ∷ c) (m ∷ n) (x ∷ s) [] long same wide ends = absurd (omega arith)
shape_inside (a ∷ c) (m ∷ n) (x ∷ s) (y ∷ e) long same wide ends =
    let first : x + y ≤ m = ends 0 (omega arith) in
    let here : min (a + x + y) (a + m) - max (a + x) a ≡ y = omega arith in
    ap (λ v. v ∷ overlap_extents (offset_by c s) e c n) here
    ∙ ap (λ (l : List ℕ). y ∷ l) (shape_inside c n s e (omega arith) (omega arith) (omega arith) (λ k below. ends (suc k) (omega arith)))

module _ (chunk part : Box) (long : IsLong chunk) (wide : IsLong part) (lies : LiesInShape part chunk.shape) where
  pub overlap_inside : overlap_of (part_box chunk part) chunk ≡ part_box chunk part
  overlap_inside =
      let same : length part.start ≡ length chunk.start = lies.same_length ∙ sym long in
      ap (λ (start : List ℕ). record { start = start; shape = overlap_extents (offset_by chunk.start part.start) part.shape chunk.start chunk.shape }) (start_inside chunk.start part.start same)
      ∙ ap (λ (shape : List ℕ). record { start = offset_by chunk.start part.start; shape = shape })
      (shape_inside chunk.start chunk.shape part.start part.shape long lies.same_length (sym wide ∙ lies.same_length) lies.ends)

  pub own_part : part ≡ chunk_part (part_box chunk part) chunk
  own_part =
      sym (ap (λ (b : Box). seen_from b chunk.start) overlap_inside
      ∙ ap (λ (start : List ℕ). record { start = start; shape = part.shape }) (seen_inside chunk.start part.start (lies.same_length ∙ sym long)))

-- data over such a part has its own cells there
pub own_cells : (k : Kind) (chunk part : Box) → IsLong chunk → IsLong part → LiesInShape part chunk.shape → (held : ArrayData) → HasCells k held (position_count part.shape)
    → ExtractsCells k (part_box chunk part) held (overlap_of (part_box chunk part) chunk) held
own_cells k chunk part long wide lies held fits =
    let found = HasCells-cells k held (position_count part.shape) fits in
    subst (λ (b : Box). ExtractsCells k (part_box chunk part) held b held) (sym (overlap_inside chunk part long wide lies))
    (record { held = found.0; made = found.0; old_is = found.1; new_is = found.1; count = found.2; same = λ position holds. refl })

-- ---- what a chunk is afterwards

module _ (layout : Layout) (lawful : IsLawful layout) (index : List ℕ) (has : has_box layout.grid index ≡ true) where
  abbrev box : Box
  box = box_at layout.grid index

  -- a chunk whose cells are known reads as them
  known_reads : (state : StoreState) (held : List Cell) → known_cells layout index state ≡ Some held → Reads (content layout (value_at state)) box held
  known_reads state held = go (value_at state (layout.key index)) refl
    where
      go : (o : Option (List ℕ)) → value_at state (layout.key index) ≡ o → chunk_cells layout.chain layout.kind layout.fill box.shape o ≡ Some held
          → Reads (content layout (value_at state)) box held
      go None at is =
          let same : replicate (position_count box.shape) layout.fill ≡ held = cc in
          subst (λ (cs : List Cell). Reads (content layout (value_at state)) box cs) same (reads_absent layout (value_at state) lawful index has at)
      go (Some encoded) at is = reads_decoded layout (value_at state) lawful index has encoded held at is

  module _ (part : Box) (given : List Cell) (old new : StoreState) (same : length part.start ≡ length box.shape) where
    -- the cells of the chunk are the given ones in the part, and elsewhere what they were
    updated_inside : (held : List Cell) → known_cells layout index old ≡ Some held → IsUpdated box.shape part given held (known_cells layout index new)
        → (position : List ℕ) → Holds box position
        → content layout (value_at new) position
        ≡ (cond (in_box (part_box box part) position) (cell_in (part_box box part) given position) (content layout (value_at old) position))
    updated_inside held known u position holds =
        let long = box_long layout.grid index in
        let before = known_reads old held known in
        let now = known_reads new u.made u.made_is in
        let p = offset_from box.start position in
        let inside : InShape box.shape p = offset_from-in box.start box.shape position long holds in
        let at_origin : place_in (box_at_origin box.shape) p ≡ place box.shape p = number_is box.shape p inside in
        let starts : length part.start ≡ length box.start = same ∙ sym long in
        let moved : is_within (offset_by box.start part.start) part.shape position ≡ is_within part.start part.shape p =
        within_moved box.start box.shape part.start part.shape position starts holds in
        let placed : offset_from (offset_by box.start part.start) position ≡ offset_from part.start p =
        offset_twice box.start part.start position starts (within_long box.start box.shape position holds) in
        now.each position holds
        ∙ ap (λ n. slice_get u.made n) (sym at_origin)
        ∙ u.takes p (holds_origin box.shape p inside)
        ∙ ap (λ b. cond b (cell_in part given p) (cell_in (box_at_origin box.shape) held p)) (sym moved)
        ∙ ap (λ q. cond (in_box (part_box box part) position) (slice_get given (place part.shape q)) (cell_in (box_at_origin box.shape) held p)) (sym placed)
        ∙ ap (λ o. cond (in_box (part_box box part) position) (cell_in (part_box box part) given position) o)
        (ap (λ n. slice_get held n) at_origin ∙ sym (before.each position holds))

  -- what a partial encode was written for is in the chunk
  module _ (keep : Bool) (part : Box) (held : ArrayData) (key : List ℕ) (change : PartialChange) (old new : StoreState)
      (part_long : IsLong part) (lies : LiesInShape part box.shape)
      (fits : HasCells layout.kind held (position_count part.shape)) (key_is : key ≡ layout.key index)
      (written : partial_encoding layout.chain keep layout.kind layout.fill box.shape (value_at old (layout.key index)) part held ≡ Some change)
      (put : PutsPart key (after change (value_at old key)) old new) where
    same : length part.start ≡ length box.shape
    same = lies.same_length

    wide : length part.shape ≡ length box.shape
    wide = sym part_long ∙ same

    found : (cs : List Cell) × (cells layout.kind held ≡ Some cs) × (length cs ≡ position_count part.shape)
    found = HasCells-cells layout.kind held (position_count part.shape) fits

    encoded : layout.chain.partly_encoded keep layout.kind layout.fill box.shape (value_at old (layout.key index)) part found.0 ≡ Some change
    encoded =
        ap (option_and_then (λ cs. layout.chain.partly_encoded keep layout.kind layout.fill box.shape (value_at old (layout.key index)) part cs)) (sym found.1)
        ∙ written

    stands : value_at new (layout.key index) ≡ after change (value_at old (layout.key index))
    stands = ap (value_at new) (sym key_is) ∙ put.held ∙ ap (λ k. after change (value_at old k)) key_is

    updated : (cs : List Cell) → known_cells layout index old ≡ Some cs → IsUpdated box.shape part found.0 cs (known_cells layout index new)
    updated cs known =
        subst (λ o. IsUpdated box.shape part found.0 cs (chunk_cells layout.chain layout.kind layout.fill box.shape o)) (sym stands)
        (lawful.chain.partly_updates keep layout.kind layout.fill box.shape (value_at old (layout.key index)) part found.0 cs change
        lawful.filled (cells-values layout.kind held found.0 found.1) found.2 same wide encoded known)

    -- the key holds what the partial encode makes of what stood there
    holds_part : HoldsPart layout keep (part_box box part) found.0 index old new
    holds_part =
        let long = box_long layout.grid index in
        let region = part_box box part in
        record {
          taken = found.0;
          reads = subst (λ (b : Box). Reads (cell_in region found.0) b found.0) (sym (overlap_inside box part long part_long lies))
              (record { count = found.2; each = λ position holds. refl });
          change = change;
          encoded = subst (λ (b : Box). layout.chain.partly_encoded keep layout.kind layout.fill box.shape (value_at old (layout.key index)) b found.0 ≡ Some change)
              (own_part box part long part_long lies) encoded;
          held = stands;
        }

    pub patched : PatchesChunk layout keep index part held old new
    patched = record {
      takes = record {
        given = found.0;
        are_cells = found.1;
        count = found.2;
        patches = record {
          boxed = λ i among. subst (λ (j : List ℕ). has_box layout.grid j ≡ true) (sym (only_member index i among)) has;
          keys = put_changes layout index key _ old new key_is put;
          whole = λ i among not. absurd (not tt);
          partly = λ i among itself. subst (λ (j : List ℕ). HoldsPart layout keep (part_box box part) found.0 j old new) (sym (only_member index i among)) holds_part;
          inside = λ i among known position holds.
              let is = only_member index i among in
              let here : IsSome (known_cells layout index old) = subst (λ (j : List ℕ). IsSome (known_cells layout j old)) is (known tt) in
              let in_here : Holds box position = subst (λ (j : List ℕ). Holds (box_at layout.grid j) position) is holds in
              inside_some (known_cells layout index old) refl here position in_here;
        };
      };
      makes = one_named key index 1 0 old new put.makes;
    }
      where
        inside_some : (o : Option (List Cell)) → known_cells layout index old ≡ o → IsSome o → (position : List ℕ) → Holds box position
            → content layout (value_at new) position
            ≡ (cond (in_box (part_box box part) position) (cell_in (part_box box part) found.0 position) (content layout (value_at old) position))
        inside_some None is some position holds = absurd (cc)
        inside_some (Some cs) is some position holds = updated_inside part found.0 old new same cs is (updated cs is) position holds
