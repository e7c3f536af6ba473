use Rattle.std.proofs.Common.{◌≡◌, ℕ, ◌<◌, slice_index}
use Rattle.zarrs_codec_array.proofs.lists.has_cell.Given as goal

abbrev pub invariant-loop-extent : goal.invariant-loop-extent
invariant-loop-extent l = (k : ℕ) → k < l.extent-index → slice_index l.shape k ≡ 0 → ⊥
