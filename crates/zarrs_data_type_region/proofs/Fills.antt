-- A box that is filled with one cell.
use Rattle.std.proofs.Common.{◌≡◌, ℕ, ◌<◌, Bool, true, false, cond, List, length, replicate, get_or, Some, refl, sym, ap, ◌∙◌, subst, arith}
use Rattle.std.proofs.lemmas.List.{length-replicate, get_or-replicate}
use Rattle.std.proofs.lemmas.List.FromFn.{get_or-map-range_with_len}
use Rattle.zarrs_subset.specs.Boxes.{position_count}
use Rattle.zarrs_subset.specs.Regions.{Box, IsLong, in_box, place_in}
use Rattle.zarrs_subset.proofs.Bytes.{place_in_below}
use Rattle.zarrs_data_type_kinds.specs.Kind.{Kind, fixed_size}
use Rattle.zarrs_data_type_kinds.specs.Kind as type
use Rattle.zarrs_data_type_kinds.specs.Cell.{Cell, none}
use Rattle.zarrs_data_type_bytes.specs.ArrayData.{ArrayData}
use Rattle.zarrs_data_type_bytes.specs.Cells.{cells, fits, cell_at}
use Rattle.zarrs_data_type_bytes.specs.Parts.{TakesEach}
use Rattle.zarrs_data_type_bytes.proofs.Cells.{cells-parts}
use Rattle.zarrs_data_type_region.specs.Targets.{FillsBox, HasLevels, TakesLevels, repeated}
use Rattle.zarrs_data_type_region.proofs.TargetLevels.{levels_cells}
use Rattle.zarrs_data_type_region.proofs.Repeats.{repeated_cells}

-- each of the cells
filled_cell : (k : Kind) (d : ArrayData) (n : ℕ) (c : Cell) → cells k d ≡ Some (replicate n c) → (i : ℕ) → i < n → cell_at k d i ≡ c
filled_cell k d n c is i lt =
    let len = length-replicate n c in
    let all = (cells-parts k d (replicate n c) is).2 in
    sym (get_or-map-range_with_len (λ j. cell_at k d j) 0 (length (replicate n c)) i i none (omega arith) (omega arith))
    ∙ ap (λ l. get_or l i none) (sym all) ∙ get_or-replicate n i c none lt

pub filled_fits : (k : Kind) (d : ArrayData) (n : ℕ) (c : Cell) → cells k d ≡ Some (replicate n c) → fits k d n ≡ true
filled_fits k d n c is = subst (λ m. fits k d m ≡ true) (length-replicate n c) (cells-parts k d (replicate n c) is).0

pub fills_box : (k : Kind) (box other : Box) (c : Cell) (part old new : ArrayData) → IsLong other → ((i : ℕ) → i < position_count other.shape → cell_at k part i ≡ c)
    → TakesEach k box other part old new → FillsBox k box other c old new
fills_box k box other c part old new long each takes = λ position holds. go position (in_box other position) refl (takes.each_cell position holds)
  where
    go : (position : List ℕ) (b : Bool) → in_box other position ≡ b
        → cell_at k new (place_in box position) ≡ cond b (cell_at k part (place_in other position)) (cell_at k old (place_in box position))
        → cell_at k new (place_in box position) ≡ cond b c (cell_at k old (place_in box position))
    go position true there same = same ∙ each (place_in other position) (place_in_below other position long there)
    go position false there same = same

-- one cell, at each level and at each position of the box
pub levels_filled : (k : Kind) (size depth : ℕ) (box other : Box) (c : Cell) (d old new : ArrayData) → IsLong other → fixed_size k ≡ Some size → cells k d ≡ Some (replicate 1 c)
    → HasLevels depth size (position_count box.shape) new → TakesLevels size box other (repeated (position_count other.shape) d) old new → FillsBox k box other c old new
levels_filled k size depth box other c d old new long is all has takes =
    let n = position_count other.shape in
    let made = repeated_cells k size n d is (filled_fits k d 1 c all) in
    fills_box k box other c (repeated n d) old new long (λ i lt. made.1 i lt ∙ filled_cell k d 1 c all 0 (omega arith))
    (levels_cells k size depth n box other (repeated n d) old new is made.0 has takes)
