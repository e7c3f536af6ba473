-- Parts of chunks in targets.
use Rattle.std.proofs.Common.{◌≡◌, ℕ, ◌<◌, cond, List, length, get_or, slice_get, Option, Some, sym, ap, ◌∙◌, subst, arith}
use Rattle.std.proofs.lemmas.List.FromFn.{get_or-map-range_with_len}
use Rattle.std.proofs.lemmas.Option.{slice_get-get_or}
use Rattle.zarrs_data_type.specs.ArrayData.{ArrayData}
use Rattle.zarrs_data_type.specs.Cells.{cell_at}
use Rattle.zarrs_data_type.specs.Parts.{TakesEach}
use Rattle.zarrs_data_type_bytes.proofs.Cells.{cells-parts}
use Rattle.zarrs_subset.specs.Regions.{Box, IsLong, LiesInShape, box_at_origin, place_in}
use Rattle.zarrs_subset.proofs.Bytes.{place_in_below}
use Rattle.zarrs_data_type_region.proofs.TargetBoxes.{lies_at_origin, origin_long}
use Rattle.zarrs_data_type.specs.Cell.{Cell, is_value, none}
use Rattle.zarrs_data_type.specs.Kind.{Kind}
use Rattle.zarrs_subset.proofs.Inside.{holds_inside}
use Rattle.zarrs_codec_chain.specs.Parts.{DecodesPart, DecodesPartAt}
use Rattle.zarrs_codec_chain.proofs.MovedBoxes.{moved_holds, moved_place, moved_to}

-- the cells of a part that were written into the box
pub written_part : (k : Kind) (parent shape : List ℕ) (part own : Box) (decoded : Option (List Cell)) (made old new : ArrayData) → IsLong part → IsLong own → own.shape ≡ part.shape → LiesInShape own parent
    → DecodesPart k shape part decoded made → TakesEach k (box_at_origin parent) own made old new → DecodesPartAt k shape part decoded (box_at_origin parent) own new
written_part k parent shape part own decoded made old new long own_long same lies d takes = λ position holds.
    let box = box_at_origin parent in
    let q = moved_to own part position in
    let there = moved_holds own part own_long long same position holds in
    let inside = holds_inside own box q own_long (origin_long parent) (lies_at_origin own parent lies) there in
    let i = place_in part position in
    let taken : cell_at k new (place_in box q) ≡ cell_at k made i =
    takes.each_cell q inside
    ∙ ap (λ b. cond b (cell_at k made (place_in own q)) (cell_at k old (place_in box q))) there
    ∙ ap (cell_at k made) (moved_place own part own_long long same position holds) in
    let parts = cells-parts k made d.given d.are_cells in
    let below : i < length d.given = subst (λ n. i < n) (sym d.count) (place_in_below part position long holds) in
    let cell_is : slice_get d.given i ≡ Some (cell_at k made i) =
    slice_get-get_or d.given i none below ∙ ap (λ l. Some (get_or l i none)) parts.2
    ∙ ap Some (get_or-map-range_with_len (λ j. cell_at k made j) 0 (length d.given) i i none below (omega arith)) in
    record {
      value = ap (is_value k) taken ∙ parts.1 i below;
      same = λ whole is. ap Some taken ∙ sym cell_is ∙ d.same whole is position holds;
    }
