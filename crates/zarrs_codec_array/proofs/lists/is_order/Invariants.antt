use Rattle.std.proofs.Common.{◌≡◌, ℕ, ◌<◌, length, get_or, take, false, eqb}
use Rattle.std.specs.List.{list_any}
use Rattle.zarrs_codec_array.proofs.lists.is_order.Given as goal

abbrev pub invariant-loop-number : goal.invariant-loop-number
invariant-loop-number l =
    (length l.found.items ≡ length l.order)
    × ((j : ℕ) → j < length l.order → get_or l.found.items j false ≡ list_any (λ k. eqb k j) (take l.number-index l.order))
