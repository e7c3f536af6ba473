use Rattle.std.proofs.Common.{◌≡◌, take}
use Rattle.zarrs_codec_array.specs.Extents.{extents_view}
use Rattle.zarrs_codec_array.proofs.reshape.copied_entries.Given as goal

abbrev pub invariant-loop-entry : goal.invariant-loop-entry
invariant-loop-entry l = extents_view l.copy.items ≡ extents_view (take l.entry-index l.entries)
