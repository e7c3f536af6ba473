-- Parts of shards of a cell type that are read: what stands for their subchunks, what is read of them, and why it is not.
use Rattle.std.specs.Prelude.{◌≡◌, ◌*◌, ◌<◌, ◌^◌, List, Option, None, ℕ, IfSome, IsSome, slice_index_or}
use Rattle.zarrs_codec_chain.specs.Chain.{ChainMeaning, is_too_large}
use Rattle.zarrs_codec_chain.specs.PartRefusals.{RefusesPartDecoding}
use Rattle.zarrs_codec_chain.specs.Refusals.{IsTooLargeToDecode}
use Rattle.zarrs_codec_chain.specs.ShardParts.{HasAllParts, ReadsSubchunk, RefusesStep}
use Rattle.zarrs_codec_chain.specs.ShardReads.{IsAt, ShardRead, parts_of}
use Rattle.zarrs_codec_chain.specs.declared.error.PartError.{PartError}
use Rattle.zarrs_data_type.specs.ArrayData.{ArrayData}
use Rattle.zarrs_data_type.specs.Cell.{Cell}
use Rattle.zarrs_data_type.specs.CellTypes.{filling, kind_of}
use Rattle.zarrs_data_type.specs.Kind.{Kind, cell_size}
use Rattle.zarrs_data_type.specs.States.{data_of_target, parent_box, target_box}
use Rattle.zarrs_data_type_kinds.specs.declared.cell_type.CellType.{CellType}
use Rattle.zarrs_data_type_region.specs.declared.target.ArrayBytesDecodeIntoTarget.{ArrayBytesDecodeIntoTarget}
use Rattle.zarrs_subset.specs.Boxes.{position_count}
use Rattle.zarrs_subset.specs.Regions.{Box}
use Rattle.zarrs_codec.specs.Chains.{chain_meaning, inner_chain_of}
use Rattle.zarrs_codec.specs.ShardPartsInto.{HasAllPartsAt, ReadsSubchunkAt}
use Rattle.zarrs_codec.specs.ShardPieces.{HasNoPiece, HasPiece}
use Rattle.zarrs_codec.specs.Shardings.{ReadsLargeSubchunk, sharded}
use Rattle.zarrs_codec.specs.declared.sharding.ShardingCodec.{ShardingCodec}

-- a read of a part decodes the whole chunk
abbrev pub DecodesWhole : ChainMeaning → Type 0
DecodesWhole m =
    (k : Kind) (f : Cell) (s : List ℕ) (part : Box) (b : List ℕ) → m.reads_too_large k f s part b ≡ is_too_large (m.leaves_out s b) k f s

-- what the codec means to a shard that is cut so
abbrev pub shard_as : ShardingCodec → ShardRead → ChainMeaning
shard_as codec r = sharded r.at_start r.sub (chain_meaning (inner_chain_of codec))

-- what the shard decodes to
abbrev pub shard_decoded : ShardingCodec → CellType → ShardRead → Option (List Cell)
shard_decoded codec t r = (shard_as codec r).decoded (kind_of t) (filling t) r.shape r.encoded

-- what the bytes of one of its subchunks decode to
abbrev pub inner_decoded : ShardingCodec → CellType → ShardRead → List ℕ → Option (List Cell)
inner_decoded codec t r = (chain_meaning (inner_chain_of codec)).decoded (kind_of t) (filling t) r.sub

-- the subchunk with these indices, if there is one, is absent or decodes
abbrev pub DecodesOne : ShardingCodec → CellType → ShardRead → (index : List ℕ) → Type 0
DecodesOne codec t r index = (n : ℕ) → IsAt r index n → IfSome (slice_index_or (parts_of r) n None) (λ b. IsSome (inner_decoded codec t r b))

-- and so is each
abbrev pub DecodesEach : ShardingCodec → CellType → ShardRead → Type 0
DecodesEach codec t r = (index : List ℕ) → DecodesOne codec t r index

-- why the part is not read
abbrev pub RefusesShard : ShardingCodec → CellType → ShardRead → PartError → Type 0
RefusesShard codec t r =
    RefusesPartDecoding (shard_decoded codec t r) (IsTooLargeToDecode (shard_as codec r) (kind_of t) (filling t) r.shape r.part r.encoded) r.refuses

-- why the subchunks that it meets are not read
abbrev pub RefusesReads : ShardingCodec → CellType → ShardRead → PartError → Type 0
RefusesReads codec t r =
    RefusesStep (inner_decoded codec t r) (ReadsLargeSubchunk (chain_meaning (inner_chain_of codec)) (kind_of t) (filling t) r.shape r.sub r.part)
    (parts_of r) r.refuses

-- ---- cells of the part alone

-- a usize counts the bytes of its cells
abbrev pub IsCounted : CellType → ShardRead → Type 0
IsCounted t r = position_count r.part.shape * cell_size (kind_of t) < 2 ^ 64

-- the data has the cells of the subchunks at each position of the part
abbrev pub HasParts : ShardingCodec → CellType → ShardRead → ArrayData → Type 0
HasParts codec t r = HasAllParts (kind_of t) (inner_decoded codec t r) (filling t) r.shape r.sub r.part (parts_of r)

-- one more subchunk was read
abbrev pub ReadsOne : ShardingCodec → CellType → ShardRead → (index : List ℕ) (old new : ArrayData) → Type 0
ReadsOne codec t r = ReadsSubchunk (kind_of t) (inner_decoded codec t r) (filling t) r.shape r.sub r.part (parts_of r)

-- the data has the cells of the subchunk with these indices over the box `shared`
abbrev pub HasPieceOf : ShardingCodec → CellType → ShardRead → (index : List ℕ) (shared : Box) → ArrayData → Type 0
HasPieceOf codec t r = HasPiece (kind_of t) (inner_decoded codec t r) (filling t) r.shape r.sub r.part (parts_of r)

-- data that is all fill has them
abbrev pub HasNoPieceOf : ShardingCodec → CellType → ShardRead → (index : List ℕ) → Type 0
HasNoPieceOf codec t r = HasNoPiece (kind_of t) (inner_decoded codec t r) (filling t) r.shape r.sub r.part (parts_of r)

-- ---- cells of the part in the box of a target that began as `u`

abbrev pub HasPartsAt : ShardingCodec → CellType → ShardRead → (u v : ArrayBytesDecodeIntoTarget) → Type 0
HasPartsAt codec t r u v =
    HasAllPartsAt (kind_of t) (inner_decoded codec t r) (filling t) r.shape r.sub r.part (parts_of r) (parent_box u) (target_box u) (data_of_target v)

-- one more subchunk was read
abbrev pub ReadsOneAt : ShardingCodec → CellType → ShardRead → (index : List ℕ) (u v : ArrayBytesDecodeIntoTarget) → Type 0
ReadsOneAt codec t r index u v =
    ReadsSubchunkAt (kind_of t) (inner_decoded codec t r) (filling t) r.shape r.sub r.part (parts_of r) index (parent_box u) (target_box u)
    (data_of_target u) (data_of_target v)
