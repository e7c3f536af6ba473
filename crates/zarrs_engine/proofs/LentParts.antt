-- A smaller box of a target that is lent, written and taken back.
use Rattle.std.proofs.Common.{◌≡◌, ◌∙◌, ℕ, Bool, true, List, sym, subst}
use Rattle.zarrs_subset.specs.Regions.{Box, IsLong, LiesInBox, overlap_of, seen_from}
use Rattle.zarrs_chunk_grid.specs.Grids.{box_at, has_box}
use Rattle.zarrs_storage.specs.Store.{StoreState}
use Rattle.zarrs_data_type_region.specs.declared.target.ArrayBytesDecodeIntoTarget.{ArrayBytesDecodeIntoTarget}
use Rattle.zarrs_data_type.specs.States.{IsLent, IsOverBytes, IsOverMasks, IsSameTarget, KeepsTarget, TakesBack, data_of_target, parent_box, target_box}
use Rattle.zarrs_data_type.specs.Targets.{KeepsOutside, takes_type}
use Rattle.zarrs_data_type_region.proofs.TargetBoxes.{lies_at_origin, origin_long}
use Rattle.zarrs_data_type_region.proofs.Kept.{keeps_itself}
use Rattle.zarrs_data_type_region.proofs.TypeSizes.{type_taken}
use Rattle.zarrs_codec_chain.proofs.MovedBoxes.{moved_box, moved_lies, moved_outside}
use Rattle.zarrs_codec_chain.proofs.Stays.{keeps_more}
use Rattle.zarrs_engine_calls.specs.ChunkBoxes.{CoversBox}
use Rattle.zarrs_engine_calls.specs.Layout.{IsLawful, Layout}
use Rattle.zarrs_engine_calls.specs.Reads.{IsBroken}
use Rattle.zarrs_engine_layout.specs.Shared.{AreShared, IsSharedIn}
use Rattle.zarrs_engine.specs.TargetReads.{HasPositions, ReadsOneMoreInto}
use Rattle.zarrs_engine.proofs.IntoReads.{same_data, same_keeps, same_parent, same_positions}
use Rattle.zarrs_engine.proofs.TargetReads.{into_more, is_long}

-- the target `t`, which is `l` then, lent `p` of the box `made`; it was written, and is `q` then; taken back, it makes `u`
pub record IsTakenBack (made : Box) (t l p q u : ArrayBytesDecodeIntoTarget) : Type 0 where
  pub bytes : IsOverBytes t.bytes t.cell_size t.depth t.parent_shape.now made p
  pub masks : IsOverMasks t.masks p
  pub lent : IsLent t l
  pub kept : KeepsTarget p q
  pub back : TakesBack l q u

-- a box that two boxes share lies in `own`
pub made_lies : (own region chunk made : Box) → IsLong own → IsLong region → IsLong chunk → own.shape ≡ region.shape → IsSharedIn own region chunk made → LiesInBox made own
made_lies own region chunk made own_long long chunk_long same is =
    let over = overlap_of region chunk in
    let over_long = is_long region chunk over (seen_from over chunk.start) long chunk_long is.shared in
    subst (λ (b : Box). LiesInBox b own) (sym is.made_is) (moved_lies own region over own_long long over_long same is.shared.in_region)

module _ (made : Box) (t l p q u : ArrayBytesDecodeIntoTarget) (lends : IsTakenBack made t l p q u) where
  -- the same target again
  joined : IsSameTarget t u
  joined = record {
    bytes = lends.back.bytes.same_bytes ∙ lends.kept.same.bytes ∙ lends.bytes.same_bytes;
    masks = lends.back.masks.same_masks ∙ lends.kept.same.masks ∙ lends.masks.same_masks;
    cell_size = lends.back.bytes.cell_size ∙ lends.kept.same.cell_size ∙ lends.bytes.cell_size;
    depth = lends.back.bytes.depth ∙ lends.kept.same.depth ∙ lends.bytes.depth;
    parent_shape = lends.back.bytes.parent_shape ∙ lends.lent.parent_shape;
    region = lends.back.region ∙ lends.lent.region;
  }

  old_data : data_of_target p ≡ data_of_target t
  old_data = same_data t p lends.bytes.depth lends.bytes.parent_shape lends.masks.masks lends.bytes.bytes

  new_data : data_of_target u ≡ data_of_target q
  new_data = same_data q u lends.back.bytes.depth (joined.parent_shape ∙ sym (lends.kept.same.parent_shape ∙ lends.bytes.parent_shape)) lends.back.masks.masks lends.back.bytes.bytes

  module _ (moved : Box) (moved_is : made ≡ moved) where
    -- what stayed outside of the smaller box
    back_keeps : KeepsOutside t.cell_size (parent_box t) moved (data_of_target t) (data_of_target u)
    back_keeps =
        same_keeps t.cell_size p.cell_size (parent_box t) (parent_box p) moved (target_box p) (data_of_target t) (data_of_target p) (data_of_target u) (data_of_target q)
        lends.bytes.cell_size (same_parent t p lends.bytes.parent_shape) (lends.bytes.region ∙ moved_is) old_data (sym new_data) lends.kept.outside

    -- what was read into it
    back_positions : (layout : Layout) (shared : Box) (state : StoreState) → HasPositions layout shared state (parent_box p) (target_box p) (data_of_target q)
        → HasPositions layout shared state (parent_box t) moved (data_of_target u)
    back_positions layout shared state has =
        same_positions layout shared state (parent_box t) (parent_box p) moved (target_box p) (data_of_target u) (data_of_target q) (same_parent t p lends.bytes.parent_shape) (lends.bytes.region ∙ moved_is) (sym new_data) has

-- the smaller box has what the region and a chunk share
module _ (made : Box) (t l p q u : ArrayBytesDecodeIntoTarget) (lends : IsTakenBack made t l p q u) (region chunk : Box) (long : IsLong region) (chunk_long : IsLong chunk)
    (same : (target_box t).shape ≡ region.shape) (is : IsSharedIn (target_box t) region chunk made) where
  abbrev over : Box
  over = overlap_of region chunk

  over_long : IsLong over
  over_long = is_long region chunk over (seen_from over chunk.start) long chunk_long is.shared

  abbrev moved : Box
  moved = moved_box (target_box t) region over

  pub back_kept : KeepsTarget t u
  back_kept = record {
    same = joined made t l p q u lends;
    outside =
        keeps_more t.cell_size (parent_box t) (target_box t) moved (data_of_target t) (data_of_target t) (data_of_target u)
        (moved_outside (target_box t) region over t.region.now.same_length long over_long same is.shared.in_region) (keeps_itself t).outside (back_keeps made t l p q u lends moved is.made_is);
  }

  pub back_reads : (layout : Layout) → IsLawful layout → (state : StoreState) (filled : Bool) (index : List ℕ) → has_box layout.grid index ≡ true → chunk ≡ box_at layout.grid index
      → takes_type t.cell_size t.depth layout.kind ≡ true
      → HasPositions layout over state (parent_box p) (target_box p) (data_of_target q) → (CoversBox region (box_at layout.grid index) → IsBroken layout index state → ⊥)
      → ReadsOneMoreInto layout filled region index state (parent_box t) (target_box t) (data_of_target t) (data_of_target u)
  back_reads layout lawful state filled index has chunk_is takes read sound =
      into_more layout lawful region state (parent_box t) (target_box t) filled index has t.cell_size over (seen_from over chunk.start) (data_of_target t) (data_of_target u)
      (type_taken t.cell_size t.depth layout.kind takes).0 long (origin_long t.parent_shape.now) t.region.now.same_length same (lies_at_origin (target_box t) t.parent_shape.now t.whole.inside)
      (subst (λ (b : Box). AreShared region b over (seen_from over chunk.start)) chunk_is is.shared)
      (back_positions made t l p q u lends moved is.made_is layout over state read) sound (back_keeps made t l p q u lends moved is.made_is)
