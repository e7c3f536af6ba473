use Rattle.std.specs.List.{flat_map, range_with_len}
use Rattle.std.specs.Fmt.{HasWritten, IsPlainFormatter}
use Rattle.zarrs_subset.specs.Regions.{box_of, range_text}
use Rattle.zarrs_subset.proofs.subset.ArraySubsetDisplay.fmt.Given as goal

-- the ranges so far are written
abbrev pub invariant-loop-k : goal.invariant-loop-k
invariant-loop-k g l =
    IsPlainFormatter l.initial.f
    → HasWritten g.W.Write.write_str_gives l.initial.f (flat_map (range_text (box_of l.self)) (range_with_len 0 l.k)) l.f
