use Rattle.std.proofs.Common.{◌≡◌, ℕ, ◌<◌, length, slice_index}
use Rattle.zarrs_codec_array.proofs.lists.inverse.Given as goal

abbrev pub invariant-loop-k : goal.invariant-loop-k
invariant-loop-k l =
    (length l.made.items ≡ length l.order)
    × ((i : ℕ) → i < l.k → slice_index l.made.items (slice_index l.order i) ≡ i)
