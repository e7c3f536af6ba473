-- Reads of regions that lie in one chunk.
use Rattle.std.proofs.Common.{◌≡◌, ◌∙◌, ◌<◌, ℕ, true, false, List, [], ◌∷◌, length, slice_index, Some, None, sym, ap, subst, inl, inr, arith}
use Rattle.std.proofs.lemmas.Bool.{false≢true}
use Rattle.std.proofs.lemmas.Grind.{same_number_lists}
use Rattle.zarrs_subset.specs.Boxes.{position_count}
use Rattle.zarrs_subset.specs.Regions.{Box, Holds, box_from, cell_in, overlap_of, seen_from}
use Rattle.zarrs_chunk_grid.specs.Grids.{box_at, has_box}
use Rattle.zarrs_chunk_grid.proofs.Chunks.{box_long}
use Rattle.zarrs_storage.specs.Store.{StoreState}
use Rattle.zarrs_data_type.specs.ArrayData.{ArrayData}
use Rattle.zarrs_engine_calls.specs.Layout.{Layout, IsLawful}
use Rattle.zarrs_engine_calls.specs.ArgumentRefusals.{size_refusal}
use Rattle.zarrs_engine_calls.specs.Changes.{RetrievesChunk}
use Rattle.zarrs_engine_calls.specs.ChunkBoxes.{CoversBox, is_empty, last_of}
use Rattle.zarrs_engine_calls.specs.Content.{value_at}
use Rattle.zarrs_engine_calls.specs.Reads.{IsBroken, ReadsRegion}
use Rattle.zarrs_engine_calls.specs.Refusals.{Refusal, length_refusal}
use Rattle.zarrs_engine_calls.specs.StateRefusals.{IsLargeBox, IsPart, RefusesChunkRead, RefusesRegionRead}
use Rattle.zarrs_engine_calls.proofs.Contents.{absent_fill, member, only_member}
use Rattle.zarrs_engine_calls.proofs.Covers.{last_held}
use Rattle.zarrs_engine_calls.proofs.Regions.{cell_there}
use Rattle.zarrs_engine_calls.proofs.Shapes.{known_decodes}
use Rattle.zarrs_engine_layout.specs.Covers.{CoverRegion}
use Rattle.zarrs_engine_layout.specs.Shared.{AreApart, AreShared}
use Rattle.zarrs_engine.specs.RegionReads.{IsRegionOf}
use Rattle.zarrs_engine_layout.proofs.Chunks.{unread_why}
use Rattle.zarrs_engine_layout.proofs.OneChunk.{covers_lies, first_held, region_lies}
use Rattle.zarrs_engine_layout.proofs.RegionRefusals.{some_fill}
use Rattle.zarrs_codec_chain.proofs.MovedBoxes.{overlap_inside, overlap_within}
use Rattle.zarrs_engine.proofs.PartBytes.{size_fits}
use Rattle.zarrs_engine.proofs.PartWrites.{large_region, lies_covers}

module _ (layout : Layout) (lawful : IsLawful layout) (region : Box) (index : List ℕ) (cover : CoverRegion layout.grid region (index ∷ [])) where
  abbrev box : Box
  box = box_at layout.grid index

  pub has : has_box layout.grid index ≡ true
  has = cover.boxed index (member index)

  -- a region that is not the chunk does not cover it
  pub only_part : is_empty region ≡ false → (region ≡ box → ⊥) → IsPart layout region index
  only_part some apart covers =
      let long = box_long layout.grid index in
      let inner = region_lies layout.grid lawful.grid index has region cover some in
      let outer = covers_lies layout.grid lawful.grid index has region cover.long cover.dimensions covers in
      apart (sym (overlap_within region box cover.long long inner) ∙ overlap_inside region box cover.long long outer)

  -- some position of the region lies in the chunk
  pub not_apart : is_empty region ≡ false → AreApart region box → ⊥
  not_apart some apart =
      let inner = region_lies layout.grid lawful.grid index has region cover some in
      let last = last_held layout.grid lawful.grid region cover.long some in
      absurd (false≢true (sym (apart (last_of region) last) ∙ lies_covers region box cover.long (box_long layout.grid index) inner (last_of region) last))

  -- a region of the chunk's shape is the chunk
  pub same_box : is_empty region ≡ false → region.shape ≡ box.shape → region ≡ box
  same_box some shapes =
      let lies = region_lies layout.grid lawful.grid index has region cover some in
      let starts : region.start ≡ box.start =
      same_number_lists region.start box.start lies.same_length (λ k below.
      let here : k < length box.start = omega (arith, lies.same_length) in
      let first = lies.starts k here in
      let last = lies.ends k here in
      let extent = ap (λ xs. slice_index xs k) shapes in
      omega arith) in
      ap (λ start. box_from start region.shape) starts ∙ ap (λ shape. box_from box.start shape) shapes

  -- what they share is the region, seen from the corner of the chunk
  pub shared_part : is_empty region ≡ false → (region.shape ≡ box.shape → ⊥) → (part : Box) → AreShared region box (overlap_of region box) part → IsRegionOf layout index part region
  shared_part some apart part shared =
      let lies = region_lies layout.grid lawful.grid index has region cover some in
      record {
        long = cover.long;
        lies = lies;
        seen = shared.part_is ∙ ap (λ (b : Box). seen_from b box.start) (overlap_within region box cover.long (box_long layout.grid index) lies);
        proper = only_part some (λ same. apart (ap (λ (b : Box). b.shape) same));
      }

  module _ (state : StoreState) where
    -- a chunk that was read decodes
    not_broken : (held : ArrayData) → RetrievesChunk layout index held state → IsBroken layout index state → ⊥
    not_broken held r broken =
        let first = first_held layout.grid lawful.grid index has in
        let cell = cell_there box r.chunk box.start (box_long layout.grid index) r.reads.count first in
        let found = known_decodes layout lawful (value_at state) index broken.encoded box.start cell.0 has broken.stands first (r.reads.each box.start first ∙ cell.1) in
        let clash : None ≡ Some found.0 = sym broken.undecoded ∙ found.1 in
        cc

    -- the region is the chunk, which was read
    pub chunk_read : region ≡ box → (held : ArrayData) → RetrievesChunk layout index held state → ReadsRegion layout region (index ∷ []) held state
    chunk_read same held r = record {
      given = r.chunk;
      are_cells = r.is_chunk;
      reads = record {
        count = r.reads.count ∙ ap (λ (b : Box). position_count b.shape) (sym same);
        each = λ position cell holds known.
            ap (λ (b : Box). cell_in b r.chunk position) same ∙ sym (r.reads.each position (subst (λ (b : Box). Holds b position) same holds)) ∙ known;
      };
      long = cover.long;
      covered = cover.covered;
      whole = λ i among covers broken. not_broken held r (subst (λ (j : List ℕ). IsBroken layout j state) (only_member index i among) broken);
    }

    -- or it is refused
    pub chunk_refused : region ≡ box → size_refusal layout region.shape ≡ None → (r : Refusal) → RefusesChunkRead layout (length_refusal layout index) true index state r
        → RefusesRegionRead layout (size_refusal layout region.shape) region (index ∷ []) state r
    chunk_refused same fits =
        let fit = size_fits layout box.shape (ap (λ (b : Box). size_refusal layout b.shape) (sym same) ∙ fits) in
        unread_why layout index state has fit (RefusesRegionRead layout (size_refusal layout region.shape) region (index ∷ []) state)
        (inr (fits, tt))
        (λ broken. inr (fits, (index, member index, broken)))
        (λ large where_is. elim where_is [
          | inl absent ↦
              let filled = large_region layout box state (box_long layout.grid index) fit (λ position holds. absent_fill layout (value_at state) lawful index has absent position holds) large in
              inr (fits, inr (subst (λ (b : Box). IsLargeBox layout b state) (sym same) filled))
          | inr needs ↦
              let covers : CoversBox region box = λ position holds. subst (λ (b : Box). Holds b position) (sym same) holds in
              inr (fits, some_fill layout region index state has covers needs.encoded needs.stands needs.left_out needs.large)
        ])
        (λ refuses. inr (fits, (index, member index, refuses)))
