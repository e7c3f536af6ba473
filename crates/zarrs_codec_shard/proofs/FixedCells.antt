-- Cells of one size that are taken out of an array.
use Rattle.std.proofs.Common.{◌≡◌, ℕ, ◌+◌, ◌*◌, eqb, false, List, length, None, Some, sym, ap, ◌∙◌}
use Rattle.std.specs.Prelude.{slice_range}
use Rattle.std.proofs.lemmas.Bool.{eq-eqb}
use Rattle.zarrs_subset.specs.Boxes.{position_count}
use Rattle.zarrs_subset.specs.Pieces.{piece_at}
use Rattle.zarrs_subset.specs.Regions.{Box, place_in}
use Rattle.zarrs_data_type.specs.Cell.{bytes, none}
use Rattle.zarrs_data_type.specs.Kind.{Kind, element_size}
use Rattle.zarrs_data_type.specs.ArrayData.{fixed}
use Rattle.zarrs_data_type.specs.Cells.{cell_at}
use Rattle.zarrs_data_type.specs.Parts.{ExtractsAt, ExtractsEach}

module _ (k : Kind) (size : ℕ) (is : element_size k ≡ Some size) where
  cell_is : (b : List ℕ) (i : ℕ) → cell_at k (fixed b) i ≡ bytes (piece_at size b i)
  cell_is b i = ap (λ o. elim o [ None ↦ none | Some s ↦ bytes (slice_range b (i * s) (i * s + s)) ]) is

  pub extracts_fixed : (box part : Box) (old new : List ℕ) → length new ≡ position_count part.shape * size
      → ExtractsAt box (piece_at size old) part (piece_at size new) → ExtractsEach k box (fixed old) part (fixed new)
  extracts_fixed box part old new len each =
      let count = position_count part.shape in
      record {
        has_kind =
            ap (λ o. elim o [ None ↦ false | Some s ↦ eqb (length new) (count * s) ]) is ∙ eq-eqb (length new) (count * size) len;
        each_cell = λ position holds.
            cell_is new (place_in part position) ∙ ap bytes (each position holds) ∙ sym (cell_is old (place_in box position));
      }
