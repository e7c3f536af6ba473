use Rattle.std.proofs.Common.{◌≡◌, ℕ, List, [], length, ap, ◌∙◌, arith}
use Rattle.std.specs.Prelude.{slice_index}
use Rattle.zarrs_data_type_bytes.specs.Places.{numbers_in}
use Rattle.zarrs_data_type_bytes.proofs.NumberCells.{length_numbers, chunk-number}
use Rattle.zarrs_data_type_bytes.proofs.numbers.Numbers.get.Goals as goal

pub offset_bounds-cells-index : goal.offset_bounds-cells-index
offset_bounds-cells-index c =
    let held : length (numbers_in c.self.inside.bytes.items) ≡ length c.args.self.now = ap length c.self.view_is in
    let same = ap (λ (l : List ℕ). length l) c.as_slice.ensures.value in
    omega (arith, length_numbers c.self.inside.bytes.items, c.as_slice.type_inv.0)

pub bounds-cells-index : goal.bounds-cells-index
bounds-cells-index c =
    let held : length (numbers_in c.self.inside.bytes.items) ≡ length c.args.self.now = ap length c.self.view_is in
    let same = ap (λ (l : List ℕ). length l) c.as_slice.ensures.value in
    omega (arith, length_numbers c.self.inside.bytes.items, c.as_chunks.ensures.front_len)

pub returns : goal.returns
returns c =
    let bytes = c.as_slice.result.now in
    let held : length (numbers_in c.self.inside.bytes.items) ≡ length c.args.self.now = ap length c.self.view_is in
    let same = ap (λ (l : List ℕ). length l) c.as_slice.ensures.value in
    chunk-number bytes c.as_chunks.result.0.now [] c.args.index c.from_le_bytes.result
    (omega (arith, length_numbers c.self.inside.bytes.items)) c.as_chunks.ensures.front c.from_le_bytes.ensures
    ∙ ap (λ l. slice_index (numbers_in l) c.args.index) c.as_slice.ensures.value
    ∙ ap (λ l. slice_index l c.args.index) c.self.view_is
