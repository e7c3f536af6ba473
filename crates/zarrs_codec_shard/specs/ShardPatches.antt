-- A shard some of whose subchunks get other bytes, subchunk by subchunk.
use Rattle.std.specs.Prelude.{◌≡◌, ℕ, ◌+◌, ◌*◌, ◌<◌, ◌≤◌, Bool, not, Option, None, Some, List, [], ◌∷◌, ◌++◌, length, take, drop, replicate}
use Rattle.std.specs.List.{flat_map}
use Rattle.zarrs_codec_shard.specs.PartialShards.{PartialChange, put, erase, all_absent, changed_bytes, changed_entries, changed_parts}
use Rattle.zarrs_codec_shard.specs.PartialShards.{stored_end, stored_entries, stored_parts}
use Rattle.zarrs_codec_shard.specs.declared.patch.PartialWrite.{PartialWrite}
use Rattle.zarrs_codec_shard.specs.declared.patch.PartialWrite.TheVariants as write
use Rattle.zarrs_codec_shard.specs.declared.patch.ShardPatch.{ShardPatch}

-- what is done with a key
abbrev pub change_of : PartialWrite → PartialChange
change_of (write.Put offset bytes) = put offset bytes.items
change_of write.Erase = erase

-- the patch of a shard of so many subchunks, with these parts, has what becomes of the first ones
pub record IsPatching (count : ℕ) (stored : Option (List ℕ)) (parts : List (Option (List ℕ))) (patch : ShardPatch)
    (changes : List (Option (Option (List ℕ)))) : Type 0 where
  pub base_is : patch.base ≡ stored_end count stored
  pub index_is : patch.index.items ≡ flat_map (λ e. e) (stored_entries count stored)
  pub encoded_is : patch.encoded.items ≡ changed_bytes changes
  pub entries_are : patch.entries.items
      ≡ flat_map (λ e. e) (changed_entries (stored_end count stored) (take (length changes) (stored_entries count stored)) changes)
  pub any_is : patch.any ≡ not (all_absent (changed_parts (take (length changes) parts) changes))

-- the patch got the new part of one more subchunk
abbrev pub PushesChange : (old new : ShardPatch) → Option (List ℕ) → Type 0
PushesChange old new part =
    (count : ℕ) (stored : Option (List ℕ)) (parts : List (Option (List ℕ))) (changes : List (Option (Option (List ℕ))))
    → stored_parts count stored ≡ Some parts → length changes < count
    → IsPatching count stored parts old changes → IsPatching count stored parts new (changes ++ Some part ∷ [])

-- the patch keeps so many more subchunks
abbrev pub KeepsParts : (old new : ShardPatch) → (n : ℕ) → (any : Bool) → Type 0
KeepsParts old new n any =
    (count : ℕ) (stored : Option (List ℕ)) (parts : List (Option (List ℕ))) (changes : List (Option (Option (List ℕ))))
    → stored_parts count stored ≡ Some parts → length changes + n ≤ count
    → any ≡ not (all_absent (take n (drop (length changes) parts)))
    → IsPatching count stored parts old changes → IsPatching count stored parts new (changes ++ replicate n None)

-- the patch has what it had
pub record IsSamePatch (old new : ShardPatch) : Type 0 where
  pub base_is : new.base ≡ old.base
  pub index_is : new.index.items ≡ old.index.items
  pub encoded_is : new.encoded.items ≡ old.encoded.items
  pub entries_are : new.entries.items ≡ old.entries.items
  pub any_is : new.any ≡ old.any

-- there are old entries for so many more subchunks
abbrev pub HasRoom : ShardPatch → (n : ℕ) → Type 0
HasRoom patch n = length patch.entries.items + n * 16 ≤ length patch.index.items
