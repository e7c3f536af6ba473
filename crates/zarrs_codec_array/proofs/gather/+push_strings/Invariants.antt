use Rattle.std.proofs.Common.{length, ◌≡◌, ◌+◌, ◌*◌, ◌++◌, [], map, get_or, slice_range, slice_index_or}
use Rattle.std.specs.List.{flat_map, range_with_len}
use Rattle.zarrs_codec_array.specs.Gathered.{walked}
use Rattle.zarrs_codec_array.proofs.gather.+push_strings.Given as goal

abbrev pub decreases-push_strings : goal.decreases-push_strings
decreases-push_strings l = length l.extents.now

abbrev pub invariant-loop-i : goal.invariant-loop-i
invariant-loop-i l =
    l.to ≡ l.initial.to ++ map (λ k. slice_index_or l.from k [])
    (flat_map (λ j. walked (slice_range l.extents 1 (length l.extents)) (slice_range l.steps 1 (length l.steps)) (l.start + j * get_or l.steps 0 0)) (range_with_len 0 l.i))
