-- Reads of parts of chunks.
use Rattle.std.proofs.Common.{◌≡◌, ◌+◌, ◌-◌, ◌*◌, ◌^◌, ◌<◌, nat_le, ℕ, zero, suc, Bool, true, false, cond, List, [], ◌∷◌, length, replicate}
use Rattle.std.proofs.Common.{slice_index, Option, Some, None, Contains, refl, sym, ◌∙◌, ap, subst, inl, inr, arith}
use Rattle.std.specs.List.{SomeIndex}
use Rattle.std.specs.Option.{option_or}
use Rattle.std.specs.Str.{bytes_eq}
use Rattle.std.proofs.lemmas.Bool.{cases_Bool, and_from, and_parts, false≢true}
use Rattle.std.proofs.lemmas.Grind.{same_number_lists}
use Rattle.std.proofs.lemmas.List.{get_or-replicate, length-replicate}
use Rattle.std.proofs.lemmas.Slice.Eq.{bytes_eq-Decides}
use Rattle.zarrs_subset.specs.Boxes.{offset_by, position_count, zip_with}
use Rattle.zarrs_subset.specs.Regions.{Box, IsLong, Holds, LiesInShape, box_from, seen_from, shifted_box, LiesInBox}
use Rattle.zarrs_subset.proofs.Counts.{count_some}
use Rattle.zarrs_subset.proofs.Overlaps.{AllSome, in_box-empty, length-zip_with}
use Rattle.zarrs_subset.proofs.Parts.{zip_with-at}
use Rattle.zarrs_subset.proofs.Shifts.{part_in_chunk}
use Rattle.zarrs_chunk_grid.specs.Grids.{box_at, has_box}
use Rattle.zarrs_chunk_grid.proofs.Chunks.{box_covered, box_dimensions, box_index, box_is_there, box_long}
use Rattle.zarrs_storage.specs.Store.{StoreState}
use Rattle.zarrs_data_type.specs.ArrayData.{ArrayData}
use Rattle.zarrs_data_type.specs.Cell.{Cell, held_size}
use Rattle.zarrs_data_type.specs.Cells.{cells}
use Rattle.zarrs_engine_calls.specs.Layout.{Layout, IsLawful}
use Rattle.zarrs_engine_calls.specs.ArgumentRefusals.{chunk_refusal, part_refusal, read_part_refusal, size_refusal}
use Rattle.zarrs_engine_calls.specs.Changes.{RetrievesChunk}
use Rattle.zarrs_engine_calls.specs.ChunkBoxes.{is_whole_of, part_box}
use Rattle.zarrs_engine_calls.specs.Reads.{ReadsRegion}
use Rattle.zarrs_engine_calls.specs.Refusals as refusal
use Rattle.zarrs_engine_calls.specs.Refusals.{Refusal, RefusesBy, fill_refusal, is_too_large, length_refusal, key_refusal, read_refusal, refuse_if}
use Rattle.zarrs_engine_calls.specs.StateRefusals.{IsPart, RefusesChunkRead, RefusesRegionRead, RefusesSomeChunk}
use Rattle.zarrs_engine_calls.specs.Reach.{MayDecodePart}
use Rattle.zarrs_engine_calls.specs.ChunkBoxes.{chunk_part}
use Rattle.zarrs_engine_calls.specs.Step.{RetrievesPart, RefusesRetrievePart}
use Rattle.zarrs_engine_calls.specs.Content.{content, value_at}
use Rattle.zarrs_engine_calls.proofs.Contents.{absent_fill, member, only_member}
use Rattle.zarrs_engine_calls.proofs.RefusalLemmas.{memory_or_said, refused_first, refused_second, second_refusal}
use Rattle.zarrs_engine_layout.specs.Covers.{CoverRegion}
use Rattle.zarrs_engine_layout.specs.Shared.{AreApart, AreShared}
use Rattle.zarrs_engine_layout.specs.Steps.{filled_refusal}
use Rattle.zarrs_engine.specs.RegionReads.{DecodesStored, HasRead, IsRegionOf, ReadsOneMore}
use Rattle.zarrs_engine_layout.proofs.ChunkParts.{chunk_has, part_lies, shifted_part}
use Rattle.zarrs_engine_layout.proofs.Chunks.{right_length}
use Rattle.zarrs_engine_layout.proofs.OneChunk.{covers_lies}
use Rattle.zarrs_codec_chain.proofs.MovedBoxes.{overlap_inside, overlap_within}
use Rattle.zarrs_engine.proofs.PartBytes.{size_fits}
use Rattle.zarrs_engine.proofs.PartWrites.{large_region, lies_covers}
use Rattle.zarrs_engine.proofs.RegionReads.{read_absent, read_all, read_alone, read_apart, read_none}

-- ---- which part is the whole chunk

same_bytes : (a b : List ℕ) → a ≡ b → bytes_eq a b ≡ true
same_bytes a b is = (bytes_eq-Decides a b).1 is

offset_origin : (start : List ℕ) (n : ℕ) → length start ≡ n → offset_by start (replicate n 0) ≡ start
offset_origin [] n long = refl
offset_origin (s ∷ start) zero long = absurd (omega arith)
offset_origin (s ∷ start) (suc n) long =
    let here : s + 0 ≡ s = omega arith in
    ap (λ x. x ∷ offset_by start (replicate n 0)) here ∙ ap (λ xs. s ∷ xs) (offset_origin start n (omega arith))

module _ (chunk part : Box) (long : IsLong chunk) where
  -- a part of the shape of its chunk is all of it
  pub whole_part : LiesInShape part chunk.shape → part.shape ≡ chunk.shape → is_whole_of chunk.shape part ≡ true
  whole_part lies shapes =
      let zeros = length-replicate {A = ℕ} (length chunk.shape) 0 in
      let starts : part.start ≡ replicate (length chunk.shape) 0 =
      same_number_lists part.start (replicate (length chunk.shape) 0) (lies.same_length ∙ sym zeros) (λ k below.
      let inside : k < length chunk.shape = omega (arith, lies.same_length) in
      let end = lies.ends k inside in
      let full = ap (λ xs. slice_index xs k) shapes in
      let at = get_or-replicate {A = ℕ} (length chunk.shape) k 0 0 inside in
      omega arith) in
      and_from (bytes_eq part.start (replicate (length chunk.shape) 0)) (bytes_eq part.shape chunk.shape) (same_bytes _ _ starts) (same_bytes _ _ shapes)

  -- a part that is the whole chunk lies where it does
  pub whole_box : is_whole_of chunk.shape part ≡ true → part_box chunk part ≡ chunk
  whole_box whole =
      let parts = and_parts (bytes_eq part.start (replicate (length chunk.shape) 0)) (bytes_eq part.shape chunk.shape) whole in
      let starts = (bytes_eq-Decides part.start (replicate (length chunk.shape) 0)).0 parts.0 in
      let shapes = (bytes_eq-Decides part.shape chunk.shape).0 parts.1 in
      ap (λ start. box_from (offset_by chunk.start start) part.shape) starts
      ∙ ap (λ start. box_from start part.shape) (offset_origin chunk.start (length chunk.shape) long)
      ∙ ap (λ shape. box_from chunk.start shape) shapes

  -- and another one is not
  pub proper_part : (part_box chunk part ≡ chunk → ⊥) → is_whole_of chunk.shape part ≡ false
  proper_part apart =
      elim (cases_Bool (is_whole_of chunk.shape part)) [
        | inr not_whole ↦ not_whole
        | inl whole ↦ absurd (apart (whole_box whole))
      ]

-- ---- the chunk of a part covers it

module _ (layout : Layout) (lawful : IsLawful layout) (index : List ℕ) (has : has_box layout.grid index ≡ true) (part : Box) (part_long : IsLong part) where
  pub cover_part : LiesInShape part (box_at layout.grid index).shape → CoverRegion layout.grid (part_box (box_at layout.grid index) part) (index ∷ [])
  cover_part lies =
      let chunk = box_at layout.grid index in
      let long = box_long layout.grid index in
      let there = box_is_there layout.grid index has in
      let same : length part.start ≡ length chunk.start = lies.same_length ∙ sym long in
      let starts = length-zip_with (λ s t. s + t) part.start chunk.start same in
      let inside : (position : List ℕ) → Holds (shifted_box part chunk.start) position → Holds chunk position =
      λ position holds. part_in_chunk chunk part position long part_long lies holds in
      subst (λ (b : Box). CoverRegion layout.grid b (index ∷ [])) (shifted_part chunk part) (record {
        long = starts ∙ part_long;
        dimensions = starts ∙ same ∙ box_dimensions layout.grid index;
        boxed = λ i among. subst (λ (i : List ℕ). has_box layout.grid i ≡ true) (sym (only_member index i among)) has;
        covered = λ position holds. box_covered layout.grid lawful.grid index position there (inside position holds);
        listed = λ position holds. subst (λ (i : List ℕ). Contains (index ∷ []) i) (sym (box_index layout.grid lawful.grid index position there (inside position holds))) (member index);
      })

-- ---- where a part lies

-- such a region is all of what is shared, and its part is the region, seen from the corner of the chunk
pub alone_shared : (region chunk part : Box) → IsLong region → IsLong chunk → LiesInBox region chunk → part ≡ seen_from region chunk.start → 0 < position_count region.shape → AreShared region chunk region part
alone_shared region chunk part long chunk_long lies seen some =
    subst (λ (b : Box). AreShared region chunk region b) (sym seen) (record {
      some = some;
      shared_is = sym (overlap_within region chunk long chunk_long lies);
      part_is = refl;
      in_region = record {
        same_length = refl;
        starts = λ k below. omega arith;
        ends = λ k below. omega arith;
      };
      in_chunk = lies;
      lies = record {
        same_length = length-zip_with (λ s t. s - t) region.start chunk.start lies.same_length ∙ lies.same_length ∙ chunk_long;
        ends = λ k below.
            let inside : k < length chunk.start = omega (arith, chunk_long) in
            let at : slice_index (zip_with (λ s t. s - t) region.start chunk.start) k ≡ slice_index region.start k - slice_index chunk.start k =
            zip_with-at (λ s t. s - t) region.start chunk.start k (omega (arith, lies.same_length)) inside in
            let first = lies.starts k inside in
            let last = lies.ends k inside in
            omega (arith, at);
      };
      few = omega arith;
    })

-- no position of an empty region lies in a chunk
pub empty_apart : (region chunk : Box) → IsLong region → SomeIndex region.shape (λ k. slice_index region.shape k ≡ 0) → AreApart region chunk
empty_apart region chunk long none = λ position holds.
    absurd (false≢true (sym (in_box-empty region.start region.shape position none.0 long none.1 none.2) ∙ holds))

shifted_back : (start corner : List ℕ) → length start ≡ length corner → zip_with (λ s t. s - t) (offset_by corner start) corner ≡ start
shifted_back [] [] same = refl
shifted_back [] (c ∷ corner) same = absurd (omega arith)
shifted_back (s ∷ start) [] same = absurd (omega arith)
shifted_back (s ∷ start) (c ∷ corner) same =
    let here : c + s - c ≡ s = omega arith in
    ap (λ x. x ∷ zip_with (λ s t. s - t) (offset_by corner start) corner) here ∙ ap (λ xs. s ∷ xs) (shifted_back start corner (omega arith))

-- a part, seen from the corner of its chunk once more
pub part_seen : (chunk part region : Box) → length part.start ≡ length chunk.start → region ≡ part_box chunk part → part ≡ seen_from region chunk.start
part_seen chunk part region same is =
    ap (λ start. box_from start part.shape) (sym (shifted_back part.start chunk.start same)) ∙ ap (λ (b : Box). seen_from b chunk.start) (sym is)

-- a part lies in its chunk
part_within : (chunk part : Box) → IsLong chunk → LiesInShape part chunk.shape → LiesInBox (part_box chunk part) chunk
part_within chunk part long lies =
    let same : length part.start ≡ length chunk.start = lies.same_length ∙ sym long in
    let starts = length-zip_with (λ s t. s + t) part.start chunk.start same in
    let at : (k : ℕ) → k < length chunk.start → slice_index (zip_with (λ s t. s + t) part.start chunk.start) k ≡ slice_index part.start k + slice_index chunk.start k =
    λ k below. zip_with-at (λ s t. s + t) part.start chunk.start k (omega arith) below in
    subst (λ (b : Box). LiesInBox b chunk) (shifted_part chunk part) (record {
      same_length = starts ∙ same;
      starts = λ k below. omega (arith, at k below);
      ends = λ k below. omega (arith, at k below, lies.ends k (omega (arith, long)));
    })

-- ---- the read of a part

module _ (layout : Layout) (index : List ℕ) (part : Box) (state : StoreState) where
  parts_refused : (r : Refusal) → RefusesBy (read_part_refusal layout index part) r → RefusesRetrievePart layout index part r state
  parts_refused r h = record {
    whole = λ is. inl (refused_first (read_part_refusal layout index part) (option_or (key_refusal layout index state) (read_refusal layout true index (value_at state (layout.key index)))) r h);
    proper = λ is. inl h;
  }

  -- there is no such chunk
  pub part_refused_chunk : (r : Refusal) → RefusesBy (chunk_refusal layout index) r → RefusesRetrievePart layout index part r state
  part_refused_chunk r h = parts_refused r (refused_first (chunk_refusal layout index) _ r h)

  -- the part passes the chunk
  pub part_refused_part : (r : Refusal) → chunk_refusal layout index ≡ None → RefusesBy (part_refusal layout index part) r → RefusesRetrievePart layout index part r state
  part_refused_part r chunk h = parts_refused r (refused_second (chunk_refusal layout index) _ r chunk (refused_first (part_refusal layout index part) _ r h))

  module _ (chunk : chunk_refusal layout index ≡ None) (lies : part_refusal layout index part ≡ None) where
    then_sized : read_part_refusal layout index part ≡ cond (is_whole_of (box_at layout.grid index).shape part) None (size_refusal layout part.shape)
    then_sized = second_refusal (chunk_refusal layout index) _ chunk ∙ second_refusal (part_refusal layout index part) _ lies

    module _ (is : is_whole_of (box_at layout.grid index).shape part ≡ true) where
      whole_accepted : read_part_refusal layout index part ≡ None
      whole_accepted = then_sized ∙ ap (λ b. cond b None (size_refusal layout part.shape)) is

      -- all of the chunk was read
      pub whole_read : (held : ArrayData) → RetrievesChunk layout index held state → RetrievesPart layout index part held state
      whole_read held r = record {
        accepted = whole_accepted;
        whole = λ whole. r;
        proper = λ proper. absurd (false≢true (sym proper ∙ is));
      }

      pub whole_refused : (r : Refusal) → RefusesChunkRead layout (length_refusal layout index) true index state r → RefusesRetrievePart layout index part r state
      whole_refused r h =
          let long = right_length layout index (box_is_there layout.grid index (chunk_has layout index chunk)).long in
          record {
            whole = λ whole. subst (λ (o : Option Refusal). RefusesChunkRead layout o true index state r) (long ∙ sym whole_accepted) h;
            proper = λ proper. absurd (false≢true (sym proper ∙ is));
          }

    module _ (is : is_whole_of (box_at layout.grid index).shape part ≡ false) where
      proper_first : read_part_refusal layout index part ≡ size_refusal layout part.shape
      proper_first = then_sized ∙ ap (λ b. cond b None (size_refusal layout part.shape)) is

      -- a part was read
      pub proper_read : (held : ArrayData) → size_refusal layout part.shape ≡ None → ReadsRegion layout (part_box (box_at layout.grid index) part) (index ∷ []) held state → RetrievesPart layout index part held state
      proper_read held fits r = record {
        accepted = proper_first ∙ fits;
        whole = λ whole. absurd (false≢true (sym is ∙ whole));
        proper = λ proper. r;
      }

      pub proper_refused : (r : Refusal) → RefusesRegionRead layout (size_refusal layout part.shape) (part_box (box_at layout.grid index) part) (index ∷ []) state r → RefusesRetrievePart layout index part r state
      proper_refused r h = record {
        whole = λ whole. absurd (false≢true (sym is ∙ whole));
        proper = λ proper. subst (λ (o : Option Refusal). RefusesRegionRead layout o (part_box (box_at layout.grid index) part) (index ∷ []) state r) (sym proper_first) h;
      }

-- ---- the read of a part, from what its steps leave

module _ (layout : Layout) (lawful : IsLawful layout) (index : List ℕ) (part chunk region : Box) (part_long : IsLong part) (chunk_is : chunk ≡ box_at layout.grid index) (region_is : region ≡ part_box chunk part)
    (there : chunk_refusal layout index ≡ None) (inside : part_refusal layout index part ≡ None) where
  region_at : region ≡ part_box (box_at layout.grid index) part
  region_at = region_is ∙ ap (λ (b : Box). part_box b part) chunk_is

  -- the part is the whole chunk exactly if it lies where the chunk does
  pub is_whole : region ≡ chunk → is_whole_of (box_at layout.grid index).shape part ≡ true
  is_whole same =
      whole_part (box_at layout.grid index) part (box_long layout.grid index) (part_lies layout index part inside) (ap (λ (b : Box). b.shape) (sym region_at ∙ same ∙ chunk_is))

  pub is_proper : (region ≡ chunk → ⊥) → is_whole_of (box_at layout.grid index).shape part ≡ false
  is_proper apart =
      proper_part (box_at layout.grid index) part (box_long layout.grid index) (λ same. apart (region_at ∙ same ∙ sym chunk_is))

  pub part_cover : CoverRegion layout.grid region (index ∷ [])
  part_cover =
      subst (λ (b : Box). CoverRegion layout.grid b (index ∷ [])) (sym region_at)
      (cover_part layout lawful index (chunk_has layout index there) part part_long (part_lies layout index part inside))

  pub lies_within : LiesInBox region chunk
  lies_within =
      let at = box_at layout.grid index in
      subst (λ (b : Box). LiesInBox b chunk) (sym region_is) (part_within chunk part (subst IsLong (sym chunk_is) (box_long layout.grid index))
      (subst (λ (b : Box). LiesInShape part b.shape) (sym chunk_is) (part_lies layout index part inside)))

  pub seen_part : part ≡ seen_from region chunk.start
  seen_part =
      let lies = part_lies layout index part inside in
      part_seen chunk part region (lies.same_length ∙ sym (box_long layout.grid index) ∙ ap (λ (b : Box). length b.start) (sym chunk_is)) region_is

  -- a part that is not the whole chunk does not cover it
  pub is_part : (region ≡ chunk → ⊥) → IsPart layout region index
  is_part apart covers =
      let box = box_at layout.grid index in
      let long = box_long layout.grid index in
      let inner = subst (LiesInBox region) chunk_is lies_within in
      let outer = covers_lies layout.grid lawful.grid index (chunk_has layout index there) region part_cover.long part_cover.dimensions covers in
      apart (sym (overlap_within region box part_cover.long long inner) ∙ overlap_inside region box part_cover.long long outer ∙ sym chunk_is)

  pub region_of : (region ≡ chunk → ⊥) → IsRegionOf layout index part region
  region_of apart = record {
    long = part_cover.long;
    lies = subst (LiesInBox region) chunk_is lies_within;
    seen = seen_part ∙ ap (λ (b : Box). seen_from region b.start) chunk_is;
    proper = is_part apart;
  }

  module _ (state : StoreState) (apart : region ≡ chunk → ⊥) where
    -- the cells that were decoded
    pub part_alone : (made : ArrayData) → size_refusal layout region.shape ≡ None → HasRead layout region (index ∷ []) state made → RetrievesPart layout index part made state
    part_alone made fits r =
        let reads = read_all layout lawful region (index ∷ []) state made part_cover r in
        proper_read layout index part state there inside (is_proper apart) made (ap (λ (b : Box). size_refusal layout b.shape) (sym region_is) ∙ fits)
        (subst (λ (b : Box). ReadsRegion layout b (index ∷ []) made state) region_at reads)

    pub part_not_read : (r : Refusal) → RefusesRegionRead layout (size_refusal layout region.shape) region (index ∷ []) state r → RefusesRetrievePart layout index part r state
    part_not_read r why =
        proper_refused layout index part state there inside (is_proper apart) r
        (subst (λ (b : Box). RefusesRegionRead layout (size_refusal layout b.shape) b (index ∷ []) state r) region_at why)

-- ---- the read of a part of a chunk, as the region that it is

-- fill is refused for its size alone
fill_said : (layout : Layout) (shape : List ℕ) (r : Refusal) → fill_refusal layout shape ≡ Some r → r ≡ refusal.size_overflow
fill_said layout shape r = of (nat_le (2 ^ 64) (position_count shape * held_size layout.kind layout.fill))
  where
    of : (large : Bool) → refuse_if large refusal.size_overflow ≡ Some r → r ≡ refusal.size_overflow
    of true said = cc
    of false said = absurd (cc)

module _ (layout : Layout) (lawful : IsLawful layout) (index : List ℕ) (has : has_box layout.grid index ≡ true) (part region : Box) (state : StoreState) (is : IsRegionOf layout index part region) where
  same_shape : part.shape ≡ region.shape
  same_shape = ap (λ (b : Box). b.shape) is.seen

  -- the chunk has nothing of it, and it is filled
  pub filled_read : (made : ArrayData) → cells layout.kind made ≡ Some (replicate (position_count part.shape) layout.fill)
      → ((held : ArrayData) → ReadsOneMore layout region index state held held) → HasRead layout region (index ∷ []) state made
  filled_read made are none =
      none made []
      (read_none layout lawful region state made is.long (subst (λ s. cells layout.kind made ≡ Some (replicate (position_count s) layout.fill)) same_shape are)
      (length-replicate {A = Cell} (position_count region.shape) layout.fill))

  pub region_empty : SomeIndex part.shape (λ k. slice_index part.shape k ≡ 0) → (held : ArrayData) → ReadsOneMore layout region index state held held
  region_empty none held =
      let some = subst (λ s. SomeIndex s (λ k. slice_index s k ≡ 0)) same_shape none in
      read_apart layout lawful region index state has held (empty_apart region (box_at layout.grid index) is.long some)

  pub region_absent : value_at state (layout.key index) ≡ None → (held : ArrayData) → ReadsOneMore layout region index state held held
  region_absent absent held = read_absent layout lawful region index state has held absent

  -- what the chunk has of it was decoded
  pub region_decoded : AllSome part.shape → (made : ArrayData) → DecodesStored layout index part state made → HasRead layout region (index ∷ []) state made
  region_decoded full made decodes =
      let some = count_some region.shape (subst AllSome same_shape full) in
      read_alone layout lawful region index state has is.long is.lies.same_length region part is.long
      (alone_shared region (box_at layout.grid index) part is.long (box_long layout.grid index) is.lies is.seen some) refl is.proper made decodes

  -- all of it is fill
  pub empty_filled : SomeIndex part.shape (λ k. slice_index part.shape k ≡ 0) → (position : List ℕ) → Holds region position → content layout (value_at state) position ≡ Some layout.fill
  empty_filled none position holds =
      let some = subst (λ s. SomeIndex s (λ k. slice_index s k ≡ 0)) same_shape none in
      absurd (false≢true (sym (in_box-empty region.start region.shape position some.0 is.long some.1 some.2) ∙ holds))

  pub absent_filled : value_at state (layout.key index) ≡ None → (position : List ℕ) → Holds region position → content layout (value_at state) position ≡ Some layout.fill
  absent_filled absent position holds =
      absent_fill layout (value_at state) lawful index has absent position (lies_covers region (box_at layout.grid index) is.long (box_long layout.grid index) is.lies position holds)

  -- the fill is too large, or it has no memory for it
  pub filled_refused : (r : Refusal) → size_refusal layout part.shape ≡ None → ((position : List ℕ) → Holds region position → content layout (value_at state) position ≡ Some layout.fill)
      → RefusesBy (filled_refusal layout part.shape) r → RefusesSomeChunk layout region (index ∷ []) state r
  filled_refused r fits filled why =
      elim (memory_or_said (filled_refusal layout part.shape) r why) [
        | inl memory ↦ subst (RefusesSomeChunk layout region (index ∷ []) state) (sym memory) tt
        | inr said ↦
            let large : fill_refusal layout part.shape ≡ Some r = sym (second_refusal (size_refusal layout part.shape) (fill_refusal layout part.shape) fits) ∙ said in
            let same = fill_said layout part.shape r large in
            let here = subst (λ (x : Refusal). fill_refusal layout part.shape ≡ Some x) same large in
            let fit = subst (λ s. is_too_large layout s ≡ false) same_shape (size_fits layout part.shape fits) in
            subst (RefusesSomeChunk layout region (index ∷ []) state) (sym same)
            (inr (large_region layout region state is.long fit filled (subst (λ s. fill_refusal layout s ≡ Some refusal.size_overflow) same_shape here)))
      ]

-- what is read of a part of a chunk is what may be read of the region that it is
pub part_asked : (layout : Layout) (index : List ℕ) (part region : Box) (state : StoreState) → IsLong region → LiesInBox region (box_at layout.grid index) → part ≡ seen_from region (box_at layout.grid index).start
    → MayDecodePart layout (chunk_part region (box_at layout.grid index)) index state → MayDecodePart layout part index state
part_asked layout index part region state long lies seen ask =
    let box = box_at layout.grid index in
    let all = overlap_within region box long (box_long layout.grid index) lies in
    subst (λ (b : Box). MayDecodePart layout b index state) (ap (λ (b : Box). seen_from b box.start) all ∙ sym seen) ask

-- a region that is a part of a chunk has that part of it
pub region_seen : (layout : Layout) (index : List ℕ) (part region : Box) → IsRegionOf layout index part region → part ≡ chunk_part region (box_at layout.grid index)
region_seen layout index part region is =
    let box = box_at layout.grid index in
    is.seen ∙ sym (ap (λ (b : Box). seen_from b box.start) (overlap_within region box is.long (box_long layout.grid index) is.lies))
