-- Targets whose box was read.
use Rattle.std.proofs.Common.{◌≡◌, ℕ, ◌<◌, Bool, true, List, [], ◌∷◌, None, Some, Ok, Err, OnOk, Result, refl, sym, ap, ◌∙◌, subst}
use Rattle.zarrs_subset.specs.Boxes.{position_count, offset_by, offset_from}
use Rattle.zarrs_subset.specs.Regions.{Box, Holds, box_at_origin, box_of, place_in}
use Rattle.zarrs_subset.proofs.Bytes.{place_in_below}
use Rattle.zarrs_storage.specs.Store.{StoreState}
use Rattle.zarrs_data_type.specs.Kind.{Kind}
use Rattle.zarrs_data_type.specs.ArrayData.{ArrayData}
use Rattle.zarrs_data_type.specs.Cells.{cell_at, fits}
use Rattle.zarrs_data_type_bytes.proofs.Cells.{IsSized}
use Rattle.zarrs_data_type_region.specs.declared.target.ArrayBytesDecodeIntoTarget.{ArrayBytesDecodeIntoTarget}
use Rattle.zarrs_data_type.specs.States.{IsSameTarget, KeepsTarget, data_of_target, parent_box, target_box}
use Rattle.zarrs_data_type.specs.Targets.{HasLevels, KeepsOutside, masked, takes_type}
use Rattle.zarrs_data_type_region.proofs.TargetBoxes.{lies_at_origin, origin_long}
use Rattle.zarrs_data_type_region.proofs.Kept.{same_twice}
use Rattle.zarrs_data_type_region.proofs.TargetLevels.{masked_levels}
use Rattle.zarrs_data_type_region.proofs.TypeSizes.{type_taken}
use Rattle.zarrs_codec_chain.proofs.Stays.{keeps_more}
use Rattle.zarrs_codec_chain.specs.PartRefusals.{RefusesIntoDecoding}
use Rattle.zarrs_codec_leaf.specs.declared.error.CodecError.{CodecError}
use Rattle.zarrs_codec_leaf.specs.declared.error.CodecError.TheVariants as codec
use Rattle.zarrs_chunk_grid.specs.Grids.{box_at}
use Rattle.zarrs_engine_calls.specs.Content.{decoded_cells, value_at}
use Rattle.zarrs_engine_calls.specs.Errors.{error_of_codec}
use Rattle.zarrs_engine_calls.specs.Refusals.{refusal_of}
use Rattle.zarrs_engine_calls.specs.StateRefusals.{RefusesSomeChunk}
use Rattle.zarrs_engine_calls.proofs.Contents.{member}
use Rattle.zarrs_engine_calls.specs.ChunkBoxes.{chunks_met}
use Rattle.zarrs_engine_calls.specs.Layout.{Layout}
use Rattle.zarrs_engine_calls.specs.Reads.{ReadsRegion}
use Rattle.zarrs_engine_layout.specs.Covers.{CoverRegion}
use Rattle.zarrs_engine.specs.TargetReads.{HasPositions, HasReadInto, IsRead, ReadsOneMoreInto}
use Rattle.zarrs_engine.specs.Into.{HasContent, RetrievesInto, target_refusal}
use Rattle.zarrs_engine.proofs.BoxData.{box_cell, box_data, box_levels, box_taken, levels_fit}
use Rattle.zarrs_engine.proofs.TargetReads.{each_read, reads_from}
use Rattle.zarrs_codec_chain.proofs.MovedBoxes.{moved_unravel, origin_moved}

-- the data of a target has its levels
pub target_levels : (old new : ArrayBytesDecodeIntoTarget) → IsSameTarget old new → HasLevels old.depth old.cell_size (position_count old.parent_shape.now) (data_of_target new)
target_levels old new same =
    let d = data_of_target new in
    let levels = masked_levels new.depth new.cell_size (position_count new.parent_shape.now) new.masks.now new.bytes.now new.whole.has_bytes new.whole.has_masks in
    subst (λ (s : List ℕ). HasLevels old.depth old.cell_size (position_count s) d) same.parent_shape
    (subst (λ n. HasLevels old.depth n (position_count new.parent_shape.now) d) same.cell_size
    (subst (λ n. HasLevels n new.cell_size (position_count new.parent_shape.now) d) same.depth levels))

module _ (layout : Layout) (region : Box) (state : StoreState) (old new : ArrayBytesDecodeIntoTarget) (same : (target_box old).shape ≡ region.shape)
    (cover : CoverRegion layout.grid region (chunks_met layout.grid region)) (read : HasReadInto layout region (chunks_met layout.grid region) state (parent_box old) (target_box old) (data_of_target new)) where
  abbrev box : Box
  box = parent_box old

  abbrev own : Box
  own = target_box old

  -- it has the content of the region
  pub content_read : HasContent layout region state old new
  content_read = λ position cell holds found.
      (each_read layout region (chunks_met layout.grid region) state cover box own (data_of_target new) read position holds).same cell found

  -- and is as if the cells of a read were put into it
  pub retrieves_into : (shape : List ℕ) → KeepsTarget old new → takes_type old.cell_size old.depth layout.kind ≡ true → IsSized layout.kind → target_refusal layout shape region old ≡ None
      → RetrievesInto layout shape region state old new
  retrieves_into shape kept takes sized accepted =
      let k = layout.kind in
      let d = data_of_target new in
      let size = old.cell_size in
      let taken = type_taken size old.depth k takes in
      let levels = target_levels old new kept.same in
      let box_long = origin_long old.parent_shape.now in
      let long = old.region.now.same_length in
      let lies = lies_at_origin own old.parent_shape.now old.whole.inside in
      let held = box_data size box own d in
      let own_levels = box_levels size box own box_long long lies old.depth d levels in
      let fit : fits k held (position_count region.shape) ≡ true =
      ap (λ s. fits k held (position_count s)) (sym same) ∙ levels_fit k size old.depth (position_count own.shape) held taken.0 taken.1 own_levels in
      let each : (position : List ℕ) → Holds region position → IsRead layout state position (cell_at k held (place_in region position)) =
      λ position holds.
      let i = place_in region position in
      let lt : i < position_count own.shape = subst (λ s. i < position_count s) (sym same) (place_in_below region position cover.long holds) in
      let at : cell_at k held i ≡ cell_at k d (place_in box (offset_by own.start (offset_from region.start position))) =
      box_cell size box own box_long long lies k old.depth d taken.0 levels i lt
      ∙ ap (λ q. cell_at k d (place_in box q)) (moved_unravel own region long cover.long same position holds) in
      subst (IsRead layout state position) (sym at) (each_read layout region (chunks_met layout.grid region) state cover box own d read position holds) in
      record {
        held = held;
        accepted = accepted;
        reads = reads_from layout region (chunks_met layout.grid region) state cover held sized fit each read.whole;
        written = box_taken size box own box_long long lies k old.depth (data_of_target old) d taken.0 taken.1 levels kept.outside;
      }

-- data of a region alone, whose cells were read
pub region_read : (layout : Layout) (region : Box) (chunks : List (List ℕ)) (state : StoreState) (size depth : ℕ) (d made : ArrayData) → CoverRegion layout.grid region chunks
    → takes_type size depth layout.kind ≡ true → IsSized layout.kind
    → HasReadInto layout region chunks state (box_at_origin region.shape) (box_at_origin region.shape) d → HasLevels depth size (position_count region.shape) made
    → ((i : ℕ) → i < position_count region.shape → cell_at layout.kind made i ≡ cell_at layout.kind d i) → ReadsRegion layout region chunks made state
region_read layout region chunks state size depth d made cover takes sized read levels same =
    let k = layout.kind in
    let taken = type_taken size depth k takes in
    let whole = box_at_origin region.shape in
    reads_from layout region chunks state cover made sized (levels_fit k size depth (position_count region.shape) made taken.0 taken.1 levels)
    (λ position holds.
    let i = place_in region position in
    let at : cell_at k made i ≡ cell_at k d (place_in whole (offset_by whole.start (offset_from region.start position))) =
    same i (place_in_below region position cover.long holds) ∙ ap (cell_at k d) (sym (origin_moved region position cover.long holds)) in
    subst (IsRead layout state position) (sym at) (each_read layout region chunks state cover whole whole d read position holds))
    read.whole

-- ---- targets that are the same but for what was written

pub same_data : (t u : ArrayBytesDecodeIntoTarget) → u.depth ≡ t.depth → u.parent_shape.now ≡ t.parent_shape.now → u.masks.now ≡ t.masks.now → u.bytes.now ≡ t.bytes.now → data_of_target u ≡ data_of_target t
same_data t u depth parent masks bytes =
    ap (λ n. masked n (position_count u.parent_shape.now) u.masks.now u.bytes.now) depth
    ∙ ap (λ (s : List ℕ). masked t.depth (position_count s) u.masks.now u.bytes.now) parent
    ∙ ap (λ m. masked t.depth (position_count t.parent_shape.now) m u.bytes.now) masks
    ∙ ap (λ b. masked t.depth (position_count t.parent_shape.now) t.masks.now b) bytes

pub same_keeps : (size size_is : ℕ) (box box_is own own_is : Box) (d d_is e e_is : ArrayData) → size_is ≡ size → box_is ≡ box → own_is ≡ own → d_is ≡ d → e_is ≡ e → KeepsOutside size_is box_is own_is d_is e_is → KeepsOutside size box own d e
same_keeps size size_is box box_is own own_is d d_is e e_is sizes boxes owns olds news keeps =
    subst (λ (x : ArrayData). KeepsOutside size box own d x) news
    (subst (λ (x : ArrayData). KeepsOutside size box own x e_is) olds
    (subst (λ (b : Box). KeepsOutside size box b d_is e_is) owns
    (subst (λ (b : Box). KeepsOutside size b own_is d_is e_is) boxes (subst (λ n. KeepsOutside n box_is own_is d_is e_is) sizes keeps))))

pub same_positions : (layout : Layout) (region : Box) (state : StoreState) (box box_is own own_is : Box) (e e_is : ArrayData) → box_is ≡ box → own_is ≡ own → e_is ≡ e
    → HasPositions layout region state box_is own_is e_is → HasPositions layout region state box own e
same_positions layout region state box box_is own own_is e e_is boxes owns news has =
    subst (λ (x : ArrayData). HasPositions layout region state box own x) news
    (subst (λ (b : Box). HasPositions layout region state box b e_is) owns (subst (λ (b : Box). HasPositions layout region state b own_is e_is) boxes has))

pub same_parent : (t l : ArrayBytesDecodeIntoTarget) → l.parent_shape.now ≡ t.parent_shape.now → parent_box l ≡ parent_box t
same_parent t l same = ap box_at_origin same

pub kept_more : (t l u : ArrayBytesDecodeIntoTarget) → KeepsTarget t l → KeepsTarget l u → KeepsTarget t u
kept_more t l u before after =
    let same = before.same in
    record {
      same = same_twice t l u same after.same;
      outside =
          keeps_more t.cell_size (parent_box t) (target_box t) (target_box t) (data_of_target t) (data_of_target l) (data_of_target u) (λ position out. out) before.outside
          (same_keeps t.cell_size l.cell_size (parent_box t) (parent_box l) (target_box t) (target_box l) (data_of_target l) (data_of_target l) (data_of_target u) (data_of_target u)
          same.cell_size (same_parent t l same.parent_shape) (ap box_of same.region) refl refl after.outside);
    }

pub same_more : (layout : Layout) (filled : Bool) (region : Box) (index : List ℕ) (state : StoreState) (t l : ArrayBytesDecodeIntoTarget) (old new : ArrayData) → IsSameTarget t l
    → ReadsOneMoreInto layout filled region index state (parent_box l) (target_box l) old new → ReadsOneMoreInto layout filled region index state (parent_box t) (target_box t) old new
same_more layout filled region index state t l old new same one =
    subst (λ (b : Box). ReadsOneMoreInto layout filled region index state (parent_box t) b old new) (ap box_of same.region)
    (subst (λ (b : Box). ReadsOneMoreInto layout filled region index state b (target_box l) old new) (same_parent t l same.parent_shape) one)

pub same_takes : (t l : ArrayBytesDecodeIntoTarget) (k : Kind) → l.cell_size ≡ t.cell_size → l.depth ≡ t.depth → takes_type t.cell_size t.depth k ≡ true → takes_type l.cell_size l.depth k ≡ true
same_takes t l k sizes depths takes = subst (λ n. takes_type n l.depth k ≡ true) (sym sizes) (subst (λ n. takes_type t.cell_size n k ≡ true) (sym depths) takes)

-- ---- refusals

-- a chunk that is present does not decode
pub into_why : (layout : Layout) (region : Box) (index : List ℕ) (state : StoreState) (encoded : List ℕ) (e : CodecError) → value_at state (layout.key index) ≡ Some encoded
    → RefusesIntoDecoding (decoded_cells layout (box_at layout.grid index) encoded) e → RefusesSomeChunk layout region (index ∷ []) state (refusal_of (error_of_codec e))
into_why layout region index state encoded (codec.DoesNotFit _) stands why = (index, member index, record { encoded = encoded; stands = stands; undecoded = why })
into_why layout region index state encoded codec.SizeOverflow stands why = absurd why
into_why layout region index state encoded codec.OutOfMemory stands why = tt

-- what is so if a call is accepted, taken together
pub on_ok_both : {T E : Type 0} (P Q : Type 0) (r : Result T E) → OnOk r P → OnOk r Q → OnOk r (P × Q)
on_ok_both P Q (Ok x) p q = (p, q)
on_ok_both P Q (Err e) p q = tt
