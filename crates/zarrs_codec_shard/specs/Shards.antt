-- The bytes of a shard: a data part, and an index that says where in it each subchunk stands.
-- The parts of a shard are the bytes of each of its subchunks in row-major order, or none for an absent one.
use Rattle.std.specs.Prelude.{ℕ, ◌+◌, ◌-◌, ◌*◌, ◌^◌, Bool, Option, None, Some, List, [], ◌∷◌, ◌++◌, length, map, take, drop, true, false}
use Rattle.std.specs.Prelude.{unwrap_or, slice_range, nat_lt, nat_le, ◌==◌, ◌&&◌, if◌then◌else◌}
use Rattle.std.specs.List.{flat_map}
use Rattle.std.specs.Int.{w64, to_le_bytes, from_le_bytes}
use Rattle.std.specs.Str.{bytes_eq}
use Rattle.zarrs_subset.specs.Pieces.{pieces}
use Rattle.zarrs_metadata_parts.specs.Extension.{◌>>=◌}
use Rattle.zarrs_codec_shard.specs.Steps.{given_if, all_present}

-- the offset and the length of an absent subchunk
abbrev pub absent : ℕ
absent = 2 ^ 64 - 1

-- an entry of the index
abbrev pub entry_bytes : (offset len : ℕ) → List ℕ
entry_bytes offset len = to_le_bytes w64 offset ++ to_le_bytes w64 len

-- where the data part begins in a shard of so many subchunks
abbrev pub data_start : (at_start : Bool) (count : ℕ) → ℕ
data_start at_start count = if at_start then count * 16 else 0

-- ---- writing

-- the entries of parts that stand one after another from an offset on
abbrev pub entries : (offset : ℕ) → List (Option (List ℕ)) → List (List ℕ)
entries offset [] = []
entries offset (None ∷ parts) = entry_bytes absent absent ∷ entries offset parts
entries offset (Some b ∷ parts) = entry_bytes offset (length b) ∷ entries (offset + length b) parts

-- the index of parts that stand without gaps
abbrev pub index_bytes : (at_start : Bool) → List (Option (List ℕ)) → List ℕ
index_bytes at_start parts = flat_map (λ entry. entry) (entries (data_start at_start (length parts)) parts)

-- the parts without gaps
abbrev pub data_bytes : List (Option (List ℕ)) → List ℕ
data_bytes parts = flat_map (λ part. unwrap_or part []) parts

-- the index and the parts
abbrev pub shard_bytes : (at_start : Bool) → List (Option (List ℕ)) → List ℕ
shard_bytes at_start parts =
    if at_start then index_bytes true parts ++ data_bytes parts else data_bytes parts ++ index_bytes false parts

-- the shard of these parts, if each offset and length is a u64
abbrev pub written_shard : (at_start : Bool) → List (Option (List ℕ)) → Option (List ℕ)
written_shard at_start parts =
    given_if (nat_lt (length (shard_bytes at_start parts)) (2 ^ 64)) (Some (shard_bytes at_start parts))

-- ---- reading

-- where the data part ends in a shard of so many subchunks and bytes
abbrev pub data_end : (at_start : Bool) (count len : ℕ) → ℕ
data_end at_start count len = if at_start then len else len - count * 16

-- the index in a shard of so many subchunks
abbrev pub index_in : (at_start : Bool) (count : ℕ) (shard : List ℕ) → List ℕ
index_in at_start count shard =
    if at_start then take (count * 16) shard else drop (length shard - count * 16) shard

-- the part that an entry names, if it lies from `start` to `end` in the shard
abbrev pub named_part : (shard : List ℕ) (start end : ℕ) (entry : List ℕ) → Option (Option (List ℕ))
named_part shard start end entry =
    let offset = from_le_bytes w64 (take 8 entry) in
    let len = from_le_bytes w64 (drop 8 entry) in
    if (offset == absent) && (len == absent) then Some None
    else given_if (nat_le start offset && nat_le (offset + len) end)
    (Some (Some (slice_range shard offset (offset + len))))

-- the parts of a shard of so many subchunks, if it holds an index and each present part lies in the data part
abbrev pub shard_parts : (at_start : Bool) (count : ℕ) (shard : List ℕ) → Option (List (Option (List ℕ)))
shard_parts at_start count shard =
    let part = named_part shard (data_start at_start count) (data_end at_start count (length shard)) in
    given_if (nat_le (count * 16) (length shard))
    (all_present (map part (pieces 16 count (index_in at_start count shard))))

-- ---- compaction

-- The shard without gaps, or none if that is the same: nothing if the bytes are no shard. It may be longer than the
-- shard, since subchunks may share bytes, and then also too long for the offsets of its index.
abbrev pub compaction : (at_start : Bool) (count : ℕ) (shard : List ℕ) → Option (Option (List ℕ))
compaction at_start count shard =
    shard_parts at_start count shard >>= λ parts.
    Some (if bytes_eq (shard_bytes at_start parts) shard then None else Some (shard_bytes at_start parts))
