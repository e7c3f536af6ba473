-- What the code keeps of the index of a shard, and of a shard that is being written.
use Rattle.std.specs.Prelude.{◌≡◌, ℕ, ◌+◌, ◌-◌, ◌*◌, ◌≤◌, Bool, true, Option, None, Some, List, [], ◌∷◌, ◌++◌, length}
use Rattle.std.specs.Prelude.{All, map, option_map, replicate, slice_range, take, ◌==◌, ◌&&◌}
use Rattle.std.specs.List.{flat_map, sum_by}
use Rattle.zarrs_codec_shard.specs.declared.shard_index.SubchunkRange.{SubchunkRange}
use Rattle.zarrs_codec_shard.specs.declared.shard_index.ShardWriter.{ShardWriter}
use Rattle.zarrs_subset.specs.Pieces.{pieces}
use Rattle.zarrs_codec_shard.specs.Shards.{absent, entry_bytes, entries, data_bytes, data_start, named_part}
use Rattle.zarrs_codec_shard.specs.Steps.{all_present}

-- the part that a range of a shard is, or none
abbrev pub range_part : (shard : List ℕ) → Option SubchunkRange → Option (List ℕ)
range_part shard range = option_map (λ r. slice_range shard r.start r.end) range

-- the entry of an index that names a range
abbrev pub range_entry : Option SubchunkRange → List ℕ
range_entry None = entry_bytes absent absent
range_entry (Some r) = entry_bytes r.start (r.end - r.start)

-- whether the ranges stand one after another, in their order and without gaps, from an offset on
abbrev pub are_packed : (offset : ℕ) → List (Option SubchunkRange) → Bool
are_packed offset [] = true
are_packed offset (None ∷ ranges) = are_packed offset ranges
are_packed offset (Some r ∷ ranges) = (r.start == offset) && are_packed r.end ranges

-- how many bytes stand at a range
abbrev pub range_len : Option SubchunkRange → ℕ
range_len None = 0
range_len (Some r) = r.end - r.start

-- the length of a shard of the subchunks that stand at these ranges
abbrev pub ranges_len : List (Option SubchunkRange) → ℕ
ranges_len ranges = length ranges * 16 + sum_by range_len ranges

-- the range lies in so many bytes
abbrev pub IsRangeWithin : (len : ℕ) → Option SubchunkRange → Type 0
IsRangeWithin len None = Unit {0}
IsRangeWithin len (Some r) = (r.start ≤ r.end) × (r.end ≤ len)

-- the writer of a shard of so many subchunks has these parts so far: behind the room for an index at the start, the
-- parts, and apart from them the entries
pub record IsWriting (at_start : Bool) (count : ℕ) (writer : ShardWriter) (parts : List (Option (List ℕ))) : Type 0 where
  pub place_is : writer.at_start ≡ at_start
  pub encoded_is : writer.encoded.items ≡ replicate (data_start at_start count) 0 ++ data_bytes parts
  pub entries_are : writer.entries.items ≡ flat_map (λ entry. entry) (entries (data_start at_start count) parts)

-- the writer got one more part
abbrev pub PushesPart : (old new : ShardWriter) → Option (List ℕ) → Type 0
PushesPart old new part =
    (at_start : Bool) (count : ℕ) (parts : List (Option (List ℕ)))
    → IsWriting at_start count old parts → IsWriting at_start count new (parts ++ part ∷ [])

-- the writer has what it had
pub record IsSameWriter (old new : ShardWriter) : Type 0 where
  pub place_is : new.at_start ≡ old.at_start
  pub encoded_is : new.encoded.items ≡ old.encoded.items
  pub entries_are : new.entries.items ≡ old.entries.items

-- the writer has as many parts as its shard has subchunks
abbrev pub IsComplete : ShardWriter → Type 0
IsComplete writer = (at_start : Bool) × (parts : List (Option (List ℕ))) × IsWriting at_start (length parts) writer parts

-- so many entries of an index name ranges between `start` and `end`, one after another from `start` up to `last`, in
-- their order and without gaps
pub record NamesPacked (count start end : ℕ) (index : List ℕ) (last : ℕ) : Type 0 where
  pub ranges : List (Option SubchunkRange)
  pub parts : (shard : List ℕ) → all_present (map (named_part shard start end) (pieces 16 count index)) ≡ Some (map (range_part shard) ranges)
  pub entries_are : take (count * 16) index ≡ flat_map range_entry ranges
  pub within : All (IsRangeWithin end) ranges
  pub packed : are_packed start ranges ≡ true
  pub last_is : last ≡ start + sum_by range_len ranges
