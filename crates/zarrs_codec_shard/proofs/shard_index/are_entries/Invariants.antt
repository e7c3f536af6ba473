use Rattle.std.proofs.Common.{◌≡◌, List, ℕ, map, true}
use Rattle.std.specs.Prelude.{is_some}
use Rattle.zarrs_codec_shard.specs.Shards.{named_part}
use Rattle.zarrs_codec_shard.specs.Steps.{all_present}
use Rattle.zarrs_subset.specs.Pieces.{pieces}
use Rattle.zarrs_codec_shard.proofs.shard_index.are_entries.Given as goal

abbrev pub invariant-loop-number : goal.invariant-loop-number
invariant-loop-number l = (shard : List ℕ) → is_some (all_present (map (named_part shard l.start l.end) (pieces 16 l.number l.index))) ≡ true
