-- Why the compaction of a shard refuses. Out of memory may come at any time.
use Rattle.std.specs.Prelude.{◌≡◌, ℕ, ◌≤◌, ◌^◌, Bool, List, length, None, Some}
use Rattle.zarrs_codec_shard.specs.declared.error.CompactError.{CompactError}
use Rattle.zarrs_codec_shard.specs.declared.error.CompactError.TheVariants as error
use Rattle.zarrs_codec_shard.specs.Shards.{compaction}

-- the bytes are no shard, or a u64 does not count those of the shard without gaps
abbrev pub RefusesShardCompaction : (at_start : Bool) (count : ℕ) (shard : List ℕ) → CompactError → Type 0
RefusesShardCompaction at_start count shard error.NoShard = compaction at_start count shard ≡ None
RefusesShardCompaction at_start count shard error.TooLong = (less : List ℕ) × (compaction at_start count shard ≡ Some (Some less)) × (2 ^ 64 ≤ length less)
RefusesShardCompaction at_start count shard error.OutOfMemory = Unit {0}
