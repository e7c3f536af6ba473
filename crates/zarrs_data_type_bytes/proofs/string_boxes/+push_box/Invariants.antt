use Rattle.std.proofs.Common.{◌≡◌, ◌++◌, ◌∷◌, drop, length, map}
use Rattle.std.specs.Prelude.{slice_index}
use Rattle.std.specs.List.{flat_map, range_with_len}
use Rattle.zarrs_subset.specs.Boxes.{positions_from}
use Rattle.zarrs_data_type_bytes.specs.StringParts.{string_from}
use Rattle.zarrs_data_type_bytes.proofs.string_boxes.+push_box.Given as goal

abbrev pub decreases-push_box : goal.decreases-push_box
decreases-push_box l = length l.part.shape.now

-- the slabs of the first indices so far
abbrev pub invariant-loop-index : goal.invariant-loop-index
invariant-loop-index l =
    l.builder ≡ l.initial.builder ++ map (string_from l.strings l.from l.fn.held.start.now l.fn.held.shape.now)
    (flat_map (λ i. map (λ p. i ∷ p) (positions_from (drop 1 l.fn.part.start.now) (drop 1 l.fn.part.shape.now))) (range_with_len (slice_index l.fn.part.start.now 0) l.index))
