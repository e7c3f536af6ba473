-- A part of a chunk's cells written into its shard, over the chain of the subchunks.
use Rattle.std.specs.Prelude.{◌≡◌, ◌⊎◌, ℕ, ◌*◌, ◌<◌, ◌≤◌, ◌^◌, Bool, true, All, IsSome}
use Rattle.std.specs.Prelude.{Option, None, Some, List, [], length, map, option_map, slice_index_or, unwrap_or, if◌then◌else◌}
use Rattle.zarrs_data_type.specs.Kind.{Kind, cell_size}
use Rattle.zarrs_data_type.specs.Cell.{Cell}
use Rattle.zarrs_data_type.specs.ArrayData.{ArrayData}
use Rattle.zarrs_codec_leaf.specs.declared.error.CodecError.{CodecError}
use Rattle.zarrs_codec_leaf.specs.declared.error.CodecError.TheVariants as error
use Rattle.zarrs_metadata_parts.specs.Extension.{◌>>=◌}
use Rattle.zarrs_codec_shard.specs.PartialShards.{PartialChange, first_changes, is_met, stored_parts, updated_subchunk, write_of}
use Rattle.zarrs_codec_shard.specs.ShardIndex.{range_part, IsRangeWithin}
use Rattle.zarrs_codec_shard.specs.SubchunkData.{chunk_shape, subchunk_shape}
use Rattle.zarrs_codec_shard.specs.declared.shard_index.SubchunkRange.{SubchunkRange}
use Rattle.zarrs_codec_shard.specs.declared.subchunks.Subchunks.{Subchunks}
use Rattle.zarrs_codec_shard.specs.ShardPatches.{IsPatching}
use Rattle.zarrs_codec_shard.specs.Sharded.{cells_of_part, part_of}
use Rattle.zarrs_codec_shard.specs.Subchunks.{subchunk_count}
use Rattle.zarrs_codec_shard.specs.declared.patch.ShardPatch.{ShardPatch}
use Rattle.zarrs_subset.specs.Boxes.{position_count}
use Rattle.zarrs_subset.specs.Regions.{Box}
use Rattle.zarrs_codec_chain.specs.Chain.{ChainMeaning}
use Rattle.zarrs_codec.specs.Shardings.{all_met_decode, cells_of, decoded_part, part_decodes, part_too_large, subchunk_meaning}

-- the bytes that are stored: none without a key
abbrev pub stored_bytes : Option (List ℕ) → List ℕ
stored_bytes stored = unwrap_or stored []

-- the parts of what is stored at these ranges
abbrev pub parts_at : (stored : Option (List ℕ)) → List (Option SubchunkRange) → List (Option (List ℕ))
parts_at stored ranges = map (range_part (stored_bytes stored)) ranges

-- the ranges are those that what is stored has for its subchunks
pub record AreStoredRanges (subchunks : Subchunks) (stored : Option (List ℕ)) (ranges : List (Option SubchunkRange)) : Type 0 where
  pub within : All (IsRangeWithin (length (stored_bytes stored))) ranges
  pub count : length ranges ≡ subchunk_count (chunk_shape subchunks) (subchunk_shape subchunks)
  pub few : length ranges * 16 < 2 ^ 64
  pub parts : stored_parts (length ranges) stored ≡ Some (parts_at stored ranges)

-- what becomes of the subchunk of this number, whose part is `old`: none if the part of the chunk does not meet it
abbrev pub changed_part : ChainMeaning → (store_empty : Bool) → Kind → Cell → (shape sub : List ℕ) → Box → ArrayData → (number : ℕ)
    → (old : Option (List ℕ)) → Option (Option (Option (List ℕ)))
changed_part m store_empty k f s sub part d number old =
    let one = subchunk_meaning m store_empty k f sub in
    if is_met s sub part number then (cells_of_part one f sub old >>= λ held.
    option_map Some (part_of one store_empty f (updated_subchunk s sub part (cells_of k d) number held)))
    else Some None

-- and of the first n subchunks
abbrev pub changes_of : ChainMeaning → (store_empty : Bool) → Kind → Cell → (shape sub : List ℕ) → Box → ArrayData
    → (parts : List (Option (List ℕ))) (n : ℕ) → Option (List (Option (Option (List ℕ))))
changes_of m store_empty k f s sub part d parts n =
    first_changes (subchunk_meaning m store_empty k f sub) store_empty f s sub part (cells_of k d) parts n

-- what is done with the key of a shard of these parts
abbrev pub write_to : ChainMeaning → (store_empty : Bool) → Kind → Cell → (shape sub : List ℕ) → (stored : Option (List ℕ)) → Box → ArrayData
    → (parts : List (Option (List ℕ))) → Option PartialChange
write_to m store_empty k f s sub stored part d parts =
    changes_of m store_empty k f s sub part d parts (subchunk_count s sub) >>= λ changes. write_of (subchunk_count s sub) stored parts changes

-- the patch of a shard of so many subchunks has what becomes of the first n
pub record HasFirstChanges (m : ChainMeaning) (store_empty : Bool) (k : Kind) (f : Cell) (s sub : List ℕ) (stored : Option (List ℕ)) (part : Box)
    (d : ArrayData) (parts : List (Option (List ℕ))) (count n : ℕ) (patch : ShardPatch) : Type 0 where
  pub changes : List (Option (Option (List ℕ)))
  pub changes_are : changes_of m store_empty k f s sub part d parts n ≡ Some changes
  pub patching : IsPatching count stored parts patch changes

-- ---- why it refuses. Out of memory may come at any time

-- a subchunk does not decode, or is too large for that
abbrev pub RefusesHeld : ChainMeaning → Kind → Cell → (sub : List ℕ) → (old : Option (List ℕ)) → CodecError → Type 0
RefusesHeld m k f sub old (error.DoesNotFit _) = decoded_part m k f sub old ≡ None
RefusesHeld m k f sub old error.SizeOverflow = part_too_large m k f sub old ≡ true
RefusesHeld m k f sub old error.OutOfMemory = Unit {0}

-- the same of one that the part meets, or what becomes of it is too large
abbrev pub RefusesChange : ChainMeaning → (store_empty : Bool) → Kind → Cell → (shape sub : List ℕ) → Box → ArrayData → (number : ℕ)
    → (old : Option (List ℕ)) → CodecError → Type 0
RefusesChange m store_empty k f s sub part d number old (error.DoesNotFit _) = decoded_part m k f sub old ≡ None
RefusesChange m store_empty k f s sub part d number old error.SizeOverflow =
    (changed_part m store_empty k f s sub part d number old ≡ None) ⊎ ((is_met s sub part number ≡ true) × (part_too_large m k f sub old ≡ true))
RefusesChange m store_empty k f s sub part d number old error.OutOfMemory = Unit {0}

-- so of one of the subchunks
abbrev pub RefusesChanges : ChainMeaning → (store_empty : Bool) → Kind → Cell → (shape sub : List ℕ) → Box → ArrayData
    → (parts : List (Option (List ℕ))) → CodecError → Type 0
RefusesChanges m store_empty k f s sub part d parts (error.DoesNotFit _) =
    (j : ℕ) × (j < length parts) × (decoded_part m k f sub (slice_index_or parts j None) ≡ None)
RefusesChanges m store_empty k f s sub part d parts error.SizeOverflow =
    (j : ℕ) × (j < length parts) × RefusesChange m store_empty k f s sub part d j (slice_index_or parts j None) error.SizeOverflow
RefusesChanges m store_empty k f s sub part d parts error.OutOfMemory = Unit {0}

-- ---- why a size is said to be too large

-- the index is too long: no bytes have it, so that it may only be written where there is no key
abbrev pub RefusesIndex : (stored : Option (List ℕ)) → CodecError → Type 0
RefusesIndex stored (error.DoesNotFit _) = IsSome stored × (length (stored_bytes stored) < 2 ^ 64)
RefusesIndex stored error.SizeOverflow = stored ≡ None
RefusesIndex stored error.OutOfMemory = ⊥

-- a subchunk is too large: no bytes are its cells, or none are looked at
abbrev pub RefusesLarge : ChainMeaning → CodecError → Type 0
RefusesLarge m (error.DoesNotFit _) =
    (k : Kind) (f : Cell) (sub b : List ℕ) → length b < 2 ^ 64 → 2 ^ 64 ≤ position_count sub * cell_size k → m.decoded k f sub b ≡ None
RefusesLarge m error.SizeOverflow = Unit {0}
RefusesLarge m error.OutOfMemory = ⊥

-- ---- why the subchunks that a part meets fail the test that they decode, or are too large for that

-- one does not decode
abbrev pub RefusesTested : ChainMeaning → Kind → Cell → (sub : List ℕ) → (old : Option (List ℕ)) → CodecError → Type 0
RefusesTested m k f sub old (error.DoesNotFit _) = decoded_part m k f sub old ≡ None
RefusesTested m k f sub old error.SizeOverflow = ⊥
RefusesTested m k f sub old error.OutOfMemory = Unit {0}

-- one of these does not
abbrev pub RefusesMet : ChainMeaning → Kind → Cell → (sub : List ℕ) → (parts : List (Option (List ℕ))) → CodecError → Type 0
RefusesMet m k f sub parts (error.DoesNotFit _) = (j : ℕ) × (j < length parts) × (decoded_part m k f sub (slice_index_or parts j None) ≡ None)
RefusesMet m k f sub parts error.SizeOverflow = ⊥
RefusesMet m k f sub parts error.OutOfMemory = Unit {0}

-- the patch of a shard of these parts: they do not decode, or those that the part meets do, and a size is too large
abbrev pub RefusesPatch : ChainMeaning → (store_empty : Bool) → Kind → Cell → (shape sub : List ℕ) → Box → ArrayData
    → (parts : List (Option (List ℕ))) → CodecError → Type 0
RefusesPatch m store_empty k f s sub part d parts (error.DoesNotFit reason) = RefusesMet m k f sub parts (error.DoesNotFit reason)
RefusesPatch m store_empty k f s sub part d parts error.SizeOverflow =
    (all_met_decode m k f s sub part parts ≡ true) × RefusesChanges m store_empty k f s sub part d parts error.SizeOverflow
RefusesPatch m store_empty k f s sub part d parts error.OutOfMemory = Unit {0}

-- the first n pass the test
abbrev pub ArePassed : ChainMeaning → Kind → Cell → (shape sub : List ℕ) → Box → (parts : List (Option (List ℕ))) (n : ℕ) → Type 0
ArePassed m k f s sub part parts n = (j : ℕ) → j < n → is_met s sub part j ≡ true → part_decodes m k f sub (slice_index_or parts j None) ≡ true
