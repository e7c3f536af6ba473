use Rattle.std.proofs.Common.{◌≡◌, ◌+◌, ◌*◌, ◌<◌, ℕ, length}
use Rattle.std.specs.Prelude.{slice_range, slice_index}
use Rattle.zarrs_data_type_bytes.proofs.array_bytes.select.select_fixed.Given as goal

abbrev pub invariant-loop-place : goal.invariant-loop-place
invariant-loop-place l = record {
  len : length l.selected.items ≡ l.place-index * l.size;
  cells : (k : ℕ) → k < l.place-index → slice_range l.selected.items (k * l.size) (k * l.size + l.size) ≡ slice_range l.bytes (slice_index l.places k * l.size) (slice_index l.places k * l.size + l.size);
}
