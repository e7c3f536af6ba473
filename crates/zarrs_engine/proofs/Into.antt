-- Reads of regions into targets.
use Rattle.std.proofs.Common.{◌≡◌, ◌<◌, ◌*◌, ◌^◌, not, ℕ, Bool, true, false, cond, nat_le, List, length, get_or, slice_get, Option, Some, None, refl, sym, ◌∙◌, ap, subst, arith}
use Rattle.std.specs.Prelude.{nat_eq}
use Rattle.std.specs.Cmp.Lexicographic.{pointwise}
use Rattle.std.specs.Option.{option_or}
use Rattle.std.proofs.lemmas.Bool.{eq-eqb, lt-leb}
use Rattle.std.proofs.lemmas.Slice.Eq.{bytes_eq-Decides}
use Rattle.std.proofs.lemmas.List.FromFn.{get_or-map-range_with_len}
use Rattle.std.proofs.lemmas.Option.{slice_get_within, get_or_from_slice_get}
use Rattle.zarrs_subset.specs.Boxes.{position_count, place, InShape, offset_by, offset_from}
use Rattle.zarrs_subset.specs.Regions.{Box, Holds, IsLong, place_in}
use Rattle.zarrs_subset.proofs.Positions.{in_box-offset_by, offset_from-by, offset_from-in}
use Rattle.zarrs_subset.proofs.Inside.{holds_inside}
use Rattle.zarrs_storage.specs.Store.{StoreState}
use Rattle.zarrs_data_type.specs.Kind.{Kind, cell_size, is_variable}
use Rattle.zarrs_data_type.specs.Cell.{Cell, none}
use Rattle.zarrs_data_type.specs.ArrayData.{ArrayData}
use Rattle.zarrs_data_type.specs.Cells.{cells, fits, cell_at}
use Rattle.zarrs_data_type.specs.Parts.{TakesEach}
use Rattle.zarrs_data_type_bytes.proofs.Cells.{cells-parts}
use Rattle.zarrs_data_type_region.specs.declared.target.ArrayBytesDecodeIntoTarget.{ArrayBytesDecodeIntoTarget}
use Rattle.zarrs_data_type.specs.States.{data_of_target, parent_box, target_box}
use Rattle.zarrs_data_type.specs.Targets.{takes_type}
use Rattle.zarrs_data_type_region.proofs.TypeSizes.{type_taken, taken_fixed}
use Rattle.zarrs_data_type_region.proofs.TargetBoxes.{bytes_within, lies_at_origin, origin_long}
use Rattle.zarrs_engine_calls.specs.Layout.{Layout, IsLawful}
use Rattle.zarrs_engine_calls.specs.ArgumentRefusals.{dimensions_refusal, into_refusal, read_region_refusal, region_refusal, size_refusal}
use Rattle.zarrs_engine_calls.specs.ChunkBoxes.{chunks_met}
use Rattle.zarrs_engine_calls.specs.Refusals as refusal
use Rattle.zarrs_engine_calls.specs.Refusals.{Refusal, refuse_if}
use Rattle.zarrs_engine_calls.specs.Reads.{ReadsRegion}
use Rattle.zarrs_engine_calls.specs.StateRefusals.{RefusesRegionRead}
use Rattle.zarrs_engine_calls.specs.Step.{RefusesRetrieveRegion}
use Rattle.zarrs_engine_calls.proofs.RefusalLemmas.{second_refusal}
use Rattle.zarrs_engine.specs.Into.{HasContent, place_of, target_refusal}
use Rattle.zarrs_data_type_bytes.proofs.FixedSizes.{size_is}

-- ---- what the arguments decide

module _ (layout : Layout) (shape : List ℕ) (region : Box) where
  dimensions_none : length region.start ≡ layout.grid.dimensions → dimensions_refusal layout shape region ≡ None
  dimensions_none is = ap (λ b. refuse_if (not b) (refusal.array_subset region shape)) (eq-eqb (length region.start) layout.grid.dimensions is)

  module _ (fit : Bool) (target : List ℕ) where
    fit_rest : length region.start ≡ layout.grid.dimensions → fit ≡ true → is_variable layout.kind ≡ false
        → into_refusal layout shape region fit target ≡ option_or (refuse_if (not (pointwise nat_eq target region.shape)) (refusal.data_shape target region.shape)) (region_refusal layout shape region)
    fit_rest dimensions fits is =
        second_refusal (dimensions_refusal layout shape region) _ (dimensions_none dimensions)
        ∙ second_refusal (refuse_if (is_variable layout.kind) refusal.codec) _ (ap (λ b. refuse_if b refusal.codec) is)
        ∙ second_refusal (refuse_if (not fit) refusal.codec) _ (ap (λ b. refuse_if (not b) refusal.codec) fits)

    -- a target that takes the cells
    into_region : length region.start ≡ layout.grid.dimensions → fit ≡ true → is_variable layout.kind ≡ false → target ≡ region.shape
        → into_refusal layout shape region fit target ≡ region_refusal layout shape region
    into_region dimensions fits is same =
        fit_rest dimensions fits is
        ∙ ap (λ b. option_or (refuse_if (not b) (refusal.data_shape target region.shape)) (region_refusal layout shape region)) ((bytes_eq-Decides target region.shape).1 same)

or_none : (a b : Option Refusal) → b ≡ None → option_or a b ≡ a
or_none None b is = is
or_none (Some x) b is = refl

small_refusal : (size : ℕ) → size < 2 ^ 64 → refuse_if (nat_le (2 ^ 64) size) refusal.size_overflow ≡ None
small_refusal size lt = ap (λ b. refuse_if b refusal.size_overflow) (lt-leb (2 ^ 64) size lt)

-- as many cells as the target has take no more bytes
pub read_size : (layout : Layout) (shape : List ℕ) (size : ℕ) → cell_size layout.kind ≡ size → position_count shape * size < 2 ^ 64 → size_refusal layout shape ≡ None
read_size layout shape size cell lt = small_refusal (position_count shape * cell_size layout.kind) (subst (λ s. position_count shape * s < 2 ^ 64) (sym cell) lt)

-- then the arguments decide what they decide of a read of the region
pub into_read : (layout : Layout) (shape : List ℕ) (region : Box) (fit : Bool) (target : List ℕ)
    → length region.start ≡ layout.grid.dimensions → fit ≡ true → is_variable layout.kind ≡ false → target ≡ region.shape → size_refusal layout region.shape ≡ None
    → into_refusal layout shape region fit target ≡ read_region_refusal layout shape region
into_read layout shape region fit target dimensions fits is same small =
    into_region layout shape region fit target dimensions fits is same ∙ sym (or_none (region_refusal layout shape region) (size_refusal layout region.shape) small)

module _ (layout : Layout) (lawful : IsLawful layout) (region : Box) (t : ArrayBytesDecodeIntoTarget) where
  pub target_read : (shape : List ℕ) → length region.start ≡ layout.grid.dimensions
      → takes_type t.cell_size t.depth layout.kind ≡ true → (target_box t).shape ≡ region.shape
      → target_refusal layout shape region t ≡ read_region_refusal layout shape region
  target_read shape dimensions takes same =
      let size = (type_taken t.cell_size t.depth layout.kind takes).0 in
      let within = bytes_within (length t.bytes.now) t.cell_size (length t.masks.now) t.depth t.parent_shape.now (target_box t) t.region.now.same_length t.whole in
      let small = t.whole.small in
      let lt : position_count (target_box t).shape * t.cell_size < 2 ^ 64 = omega arith in
      into_read layout shape region (takes_type t.cell_size t.depth layout.kind) (target_box t).shape dimensions takes (taken_fixed t.cell_size t.depth layout.kind takes) same
      (read_size layout region.shape t.cell_size (size_is layout.kind t.cell_size size)
      (subst (λ s. position_count s * t.cell_size < 2 ^ 64) same lt))

  -- the arguments decide no more than of the region
  pub target_region : (shape : List ℕ) → length region.start ≡ layout.grid.dimensions → takes_type t.cell_size t.depth layout.kind ≡ true → (target_box t).shape ≡ region.shape
      → target_refusal layout shape region t ≡ region_refusal layout shape region
  target_region shape dimensions takes same =
      into_region layout shape region (takes_type t.cell_size t.depth layout.kind) (target_box t).shape dimensions takes (taken_fixed t.cell_size t.depth layout.kind takes) same

  -- what was read fits the target's box
  pub read_fits : (chunks : List (List ℕ)) (held : ArrayData) (state : StoreState) → (target_box t).shape ≡ region.shape → ReadsRegion layout region chunks held state
      → fits layout.kind held (position_count (target_box t).shape) ≡ true
  read_fits chunks held state same r =
      subst (λ n. fits layout.kind held n ≡ true) (r.reads.count ∙ ap position_count (sym same)) (cells-parts layout.kind held r.given r.are_cells).0

-- ---- what the target has then

pub cell_found : (k : Kind) (d : ArrayData) (cs : List Cell) (i : ℕ) (cell : Cell) → cells k d ≡ Some cs → slice_get cs i ≡ Some cell → cell_at k d i ≡ cell
cell_found k d cs i cell is at =
    let lt = slice_get_within cs i cell at in
    sym (get_or-map-range_with_len (λ j. cell_at k d j) 0 (length cs) i i none lt (omega arith))
    ∙ ap (λ l. get_or l i none) (sym (cells-parts k d cs is).2) ∙ get_or_from_slice_get cs i cell none at

-- a position of the region, in the target's box
taken_at : (k : Kind) (region : Box) (t : ArrayBytesDecodeIntoTarget) (held new : ArrayData) (position : List ℕ) → IsLong region → (target_box t).shape ≡ region.shape
    → TakesEach k (parent_box t) (target_box t) held (data_of_target t) new → Holds region position
    → cell_at k new (place_of region t position) ≡ cell_at k held (place_in region position)
taken_at k region t held new position long same takes holds =
    let target_long = t.region.now.same_length in
    let start = (target_box t).start in
    let offset = offset_from region.start position in
    let there = offset_by start offset in
    let within = offset_from-in region.start region.shape position long holds in
    let inside = subst (λ s. InShape s offset) (sym same) within in
    let lies = in_box-offset_by start (target_box t).shape offset target_long inside in
    let parent = holds_inside (target_box t) (parent_box t) there target_long (origin_long t.parent_shape.now) (lies_at_origin (target_box t) t.parent_shape.now t.whole.inside) lies in
    let place : place_in (target_box t) there ≡ place_in region position =
    ap (place (target_box t).shape) (offset_from-by start (target_box t).shape offset target_long inside) ∙ ap (λ s. place s offset) same in
    takes.each_cell there parent
    ∙ ap (λ b. cond b (cell_at k held (place_in (target_box t) there)) (cell_at k (data_of_target t) (place_in (parent_box t) there))) lies
    ∙ ap (cell_at k held) place

pub has_content : (layout : Layout) (region : Box) (chunks : List (List ℕ)) (held : ArrayData) (state : StoreState) (old new : ArrayBytesDecodeIntoTarget) → (target_box old).shape ≡ region.shape
    → ReadsRegion layout region chunks held state → TakesEach layout.kind (parent_box old) (target_box old) held (data_of_target old) (data_of_target new) → HasContent layout region state old new
has_content layout region chunks held state old new same r takes = λ position cell holds found.
    taken_at layout.kind region old held (data_of_target new) position r.long same takes holds
    ∙ cell_found layout.kind held r.given (place_in region position) cell r.are_cells (r.reads.each position cell holds found)

-- ---- what is refused

pub refused_into : (layout : Layout) (shape : List ℕ) (region : Box) (first : Option Refusal) (r : Refusal) (state : StoreState)
    → first ≡ read_region_refusal layout shape region → RefusesRetrieveRegion layout shape region r state → RefusesRegionRead layout first region (chunks_met layout.grid region) state r
refused_into layout shape region first r state same why = subst (λ f. RefusesRegionRead layout f region (chunks_met layout.grid region) state r) (sym same) why
