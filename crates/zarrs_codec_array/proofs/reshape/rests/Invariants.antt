use Rattle.std.proofs.Common.{◌≡◌, ◌≤◌, take}
use Rattle.std.specs.List.{count_by}
use Rattle.zarrs_codec_array.specs.Extents.{is_rest, extents_view}
use Rattle.zarrs_codec_array.proofs.reshape.rests.Given as goal

abbrev pub invariant-loop-entry : goal.invariant-loop-entry
invariant-loop-entry l = (l.count ≤ l.entry-index) × (l.count ≡ count_by is_rest (extents_view (take l.entry-index l.entries)))
