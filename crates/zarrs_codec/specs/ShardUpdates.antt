-- A part of a chunk's cells that is written into its shard, in the code's value of it.
use Rattle.std.specs.Prelude.{◌≡◌, ℕ, Option, Some, List, length, option_map, true}
use Rattle.zarrs_codec_chain.specs.Chain.{ChainMeaning}
use Rattle.zarrs_codec_chain.specs.Options.{stores_empty_chunks}
use Rattle.zarrs_codec_leaf.specs.declared.error.CodecError.{CodecError}
use Rattle.zarrs_codec_shard.specs.PartialShards.{is_met}
use Rattle.zarrs_codec_shard.specs.ShardPatches.{change_of}
use Rattle.zarrs_codec_shard.specs.SubchunkData.{chunk_shape, subchunk_shape}
use Rattle.zarrs_codec_shard.specs.Subchunks.{subchunk_count}
use Rattle.zarrs_codec_shard.specs.declared.patch.PartialWrite.{PartialWrite}
use Rattle.zarrs_data_type.specs.ArrayData.{data_of}
use Rattle.zarrs_data_type.specs.Cell.{Cell}
use Rattle.zarrs_data_type.specs.CellTypes.{filling, kind_of}
use Rattle.zarrs_data_type.specs.Cells.{HasCells}
use Rattle.zarrs_subset.specs.Boxes.{position_count}
use Rattle.zarrs_subset.specs.Regions.{box_of}
use Rattle.zarrs_codec.specs.PartialShardings.{AreStoredRanges, RefusesChange, RefusesChanges, RefusesHeld, RefusesMet, RefusesPatch, RefusesTested}
use Rattle.zarrs_codec.specs.PartialShardings.{changed_part, parts_at, stored_bytes, write_to}
use Rattle.zarrs_codec.specs.Shardings.{all_met_decode, decoded_part, part_decodes}
use Rattle.zarrs_codec.specs.declared.partial_encode.ShardUpdate.{ShardUpdate}

-- what stands at the key, its bytes, and its parts
abbrev pub stored_in : ShardUpdate → Option (List ℕ)
stored_in u = option_map (λ encoded. encoded.now) u.stored

abbrev pub bytes_in : ShardUpdate → List ℕ
bytes_in u = stored_bytes (stored_in u)

abbrev pub parts_in : ShardUpdate → List (Option (List ℕ))
parts_in u = parts_at (stored_in u) u.ranges.items

-- how many subchunks there are
abbrev pub count_in : ShardUpdate → ℕ
count_in u = subchunk_count (chunk_shape u.subchunks) (subchunk_shape u.subchunks)

-- the part lies in the dimensions of the chunk and has these cells, and the ranges are those of what is stored
pub record IsUpdate (u : ShardUpdate) : Type 0 where
  pub dimensions : length (box_of u.part.now).start ≡ length (chunk_shape u.subchunks)
  pub cells : HasCells (kind_of u.cell_type.now) (data_of u.bytes.now) (position_count (box_of u.part.now).shape)
  pub ranges : AreStoredRanges u.subchunks (stored_in u) u.ranges.items

-- the chain of the subchunks takes them
abbrev pub FitsUpdate : ChainMeaning → ShardUpdate → Type 0
FitsUpdate m u = m.fits (kind_of u.cell_type.now) (subchunk_shape u.subchunks) ≡ true

-- the part meets the subchunk of this number
abbrev pub MeetsAt : ShardUpdate → (number : ℕ) → Type 0
MeetsAt u number = is_met (chunk_shape u.subchunks) (subchunk_shape u.subchunks) (box_of u.part.now) number ≡ true

-- ---- one subchunk, whose part is `old`

abbrev pub old_decoded : ChainMeaning → ShardUpdate → (old : Option (List ℕ)) → Option (List Cell)
old_decoded m u = decoded_part m (kind_of u.cell_type.now) (filling u.cell_type.now) (subchunk_shape u.subchunks)

abbrev pub RefusesOld : ChainMeaning → ShardUpdate → (old : Option (List ℕ)) → CodecError → Type 0
RefusesOld m u = RefusesHeld m (kind_of u.cell_type.now) (filling u.cell_type.now) (subchunk_shape u.subchunks)

abbrev pub DecodesOld : ChainMeaning → ShardUpdate → (old : Option (List ℕ)) → Type 0
DecodesOld m u old = part_decodes m (kind_of u.cell_type.now) (filling u.cell_type.now) (subchunk_shape u.subchunks) old ≡ true

abbrev pub RefusesOldTest : ChainMeaning → ShardUpdate → (old : Option (List ℕ)) → CodecError → Type 0
RefusesOldTest m u = RefusesTested m (kind_of u.cell_type.now) (filling u.cell_type.now) (subchunk_shape u.subchunks)

-- what becomes of it
abbrev pub change_in : ChainMeaning → ShardUpdate → (number : ℕ) → (old : Option (List ℕ)) → Option (Option (Option (List ℕ)))
change_in m u number old =
    changed_part m (stores_empty_chunks u.options.now) (kind_of u.cell_type.now) (filling u.cell_type.now) (chunk_shape u.subchunks)
    (subchunk_shape u.subchunks) (box_of u.part.now) (data_of u.bytes.now) number old

abbrev pub RefusesChangeOf : ChainMeaning → ShardUpdate → (number : ℕ) → (old : Option (List ℕ)) → CodecError → Type 0
RefusesChangeOf m u number old =
    RefusesChange m (stores_empty_chunks u.options.now) (kind_of u.cell_type.now) (filling u.cell_type.now) (chunk_shape u.subchunks)
    (subchunk_shape u.subchunks) (box_of u.part.now) (data_of u.bytes.now) number old

-- ---- all of them

abbrev pub MeetsDecoded : ChainMeaning → ShardUpdate → Type 0
MeetsDecoded m u =
    all_met_decode m (kind_of u.cell_type.now) (filling u.cell_type.now) (chunk_shape u.subchunks) (subchunk_shape u.subchunks)
    (box_of u.part.now) (parts_in u) ≡ true

abbrev pub RefusesMetOf : ChainMeaning → ShardUpdate → CodecError → Type 0
RefusesMetOf m u = RefusesMet m (kind_of u.cell_type.now) (filling u.cell_type.now) (subchunk_shape u.subchunks) (parts_in u)

-- what is done with the key
abbrev pub WritesUpdate : ChainMeaning → ShardUpdate → PartialWrite → Type 0
WritesUpdate m u write =
    write_to m (stores_empty_chunks u.options.now) (kind_of u.cell_type.now) (filling u.cell_type.now) (chunk_shape u.subchunks)
    (subchunk_shape u.subchunks) (stored_in u) (box_of u.part.now) (data_of u.bytes.now) (parts_in u) ≡ Some (change_of write)

abbrev pub RefusesChangesOf : ChainMeaning → ShardUpdate → CodecError → Type 0
RefusesChangesOf m u =
    RefusesChanges m (stores_empty_chunks u.options.now) (kind_of u.cell_type.now) (filling u.cell_type.now) (chunk_shape u.subchunks)
    (subchunk_shape u.subchunks) (box_of u.part.now) (data_of u.bytes.now) (parts_in u)

abbrev pub RefusesUpdate : ChainMeaning → ShardUpdate → CodecError → Type 0
RefusesUpdate m u =
    RefusesPatch m (stores_empty_chunks u.options.now) (kind_of u.cell_type.now) (filling u.cell_type.now) (chunk_shape u.subchunks)
    (subchunk_shape u.subchunks) (box_of u.part.now) (data_of u.bytes.now) (parts_in u)
