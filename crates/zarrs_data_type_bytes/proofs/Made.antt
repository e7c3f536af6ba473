-- Data that was made, cell by cell.
use Rattle.std.proofs.Common.{◌≡◌, ℕ, ◌+◌, ◌*◌, ◌<◌, true, List, length, get_or, replicate, Option, None, Some, refl}
use Rattle.std.proofs.Common.{sym, ap, ◌∙◌, subst, arith}
use Rattle.std.specs.Prelude.{IsSome, is_some, slice_range}
use Rattle.std.specs.List.{repeat}
use Rattle.std.proofs.lemmas.List.{length-replicate, get_or-replicate}
use Rattle.std.proofs.lemmas.List.FromFn.{get_or-map-range_with_len}
use Rattle.zarrs_data_type_kinds.specs.declared.data_type.DataType.{DataType}
use Rattle.zarrs_data_type_kinds.specs.Kind.{kind, element_size}
use Rattle.zarrs_data_type_kinds.specs.Cell.{bytes, none, is_value, fill_cell, fill_of}
use Rattle.zarrs_data_type_kinds.proofs.Sizes.{element_size-positive}
use Rattle.zarrs_data_type_kinds.proofs.Values.{fill-value}
use Rattle.zarrs_data_type_bytes.specs.ArrayData.{ArrayData, fixed}
use Rattle.zarrs_data_type_bytes.specs.Cells.{fits, cells, IsFilled}
use Rattle.zarrs_data_type_bytes.proofs.Cells.{cells-as, fitting-fixed}
use Rattle.zarrs_data_type_bytes.proofs.Filled.{cell_at-fixed}
use Rattle.zarrs_data_type_bytes.proofs.Fills.{fill_parts}
use Rattle.zarrs_data_type_bytes.proofs.Pieces.{length-repeat, pieces-repeat}

-- filled data has the fill value's cell, repeated
pub cells-filled : (t : DataType) (made : ArrayData) (n : ℕ) (f : List ℕ) → IsSome (fill_cell (kind t) f) → IsFilled (kind t) made n (fill_of (kind t) f)
    → cells (kind t) made ≡ Some (replicate n (fill_of (kind t) f))
cells-filled t made n f there is =
    let k = kind t in
    let c = fill_of k f in
    let len = length-replicate n c in
    let at : (i : ℕ) → i < length (replicate n c) → get_or (replicate n c) i none ≡ c = λ i lt. get_or-replicate n i c none (omega (arith, len)) in
    cells-as k made (replicate n c) (element_size-positive t) (subst (λ m. fits k made m ≡ true) (sym len) is.has_kind)
    (λ i lt. is.each_cell i (omega (arith, len)) ∙ sym (at i lt))
    (λ i lt. subst (λ d. is_value k d ≡ true) (sym (at i lt)) (fill-value k f there))

some_size : (o : Option ℕ) → is_some o ≡ true → (size : ℕ) × (o ≡ Some size)
some_size None there = cc
some_size (Some size) there = (size, refl)

-- the bytes of a fill value, again and again
pub IsFilled-repeat : (t : DataType) (f : List ℕ) (n : ℕ) → is_some (element_size (kind t)) ≡ true → IsSome (fill_cell (kind t) f) → IsFilled (kind t) (fixed (repeat n f)) n (fill_of (kind t) f)
IsFilled-repeat t f n sized there =
    let k = kind t in
    let size = some_size (element_size k) sized in
    let fill = fill_parts k size.0 f size.1 there in
    let cut : ℕ → List ℕ = λ i. slice_range (repeat n f) (i * length f) (i * length f + length f) in
    record {
      has_kind = fitting-fixed k size.0 (repeat n f) n size.1 (length-repeat f n ∙ ap (λ s. n * s) fill.2);
      each_cell = λ i lt.
          cell_at-fixed k size.0 (repeat n f) i size.1
          ∙ ap (λ s. bytes (slice_range (repeat n f) (i * s) (i * s + s))) (sym fill.2)
          ∙ ap bytes (sym (get_or-map-range_with_len cut 0 n i i f lt (omega arith))
          ∙ ap (λ l. get_or l i f) (pieces-repeat f n)
          ∙ get_or-replicate n i f f lt)
          ∙ sym fill.1;
    }
