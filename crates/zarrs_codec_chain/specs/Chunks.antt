-- A chain and a chunk: what a chain makes of a chunk of a type and shape, and why it refuses.
use Rattle.std.specs.Prelude.{ℕ, Bool, List, Option}
use Rattle.zarrs_codec_leaf.specs.declared.error.CodecError.{CodecError}
use Rattle.zarrs_codec_chain.specs.declared.error.PartError.{PartError}
use Rattle.zarrs_codec_chain.specs.Parts.{DecodesInto, DecodesPart, DecodesPartAt}
use Rattle.zarrs_codec_chain.specs.PartRefusals.{RefusesPartDecoding}
use Rattle.zarrs_data_type.specs.Cell.{Cell}
use Rattle.zarrs_data_type.specs.ArrayData.{ArrayData}
use Rattle.zarrs_subset.specs.Regions.{Box}
use Rattle.zarrs_data_type_region.specs.declared.target.ArrayBytesDecodeIntoTarget.{ArrayBytesDecodeIntoTarget}
use Rattle.zarrs_data_type.specs.States.{data_of_target, parent_box, target_box}
use Rattle.zarrs_data_type.specs.CellTypes.{kind_of, filling, chunk_kind, chunk_fill, shape_of}
use Rattle.zarrs_data_type_kinds.specs.declared.cell_type.CellType.{CellType}
use Rattle.zarrs_data_type.specs.declared.chunk_type.ChunkType.{ChunkType}
use Rattle.zarrs_codec_shard.specs.PartialShards.{PartialChange}
use Rattle.zarrs_codec_chain.specs.Chain.{ChainMeaning, chunk_encoding, partial_encoding}
use Rattle.zarrs_codec_chain.specs.Refusals.{IsTooLargeToDecode, RefusesChunkEncoding, RefusesChunkDecoding, RefusesPartialEncoding}

-- the cells of a chunk's bytes, if they decode
abbrev pub decoded_of : ChainMeaning → ChunkType → List ℕ → Option (List Cell)
decoded_of m c b = m.decoded (chunk_kind c) (chunk_fill c) (shape_of c) b

-- the bytes of a chunk's data
abbrev pub encoding_as : ChainMeaning → Bool → ChunkType → ArrayData → Option (List ℕ)
encoding_as m empty c d = chunk_encoding m empty (chunk_kind c) (chunk_fill c) (shape_of c) d

-- why a chunk is not encoded, or not decoded
abbrev pub RefusesToEncode : ChainMeaning → Bool → ChunkType → ArrayData → CodecError → Type 0
RefusesToEncode m empty c d = RefusesChunkEncoding m empty (chunk_kind c) (chunk_fill c) (shape_of c) d

abbrev pub RefusesToDecode : ChainMeaning → ChunkType → List ℕ → CodecError → Type 0
RefusesToDecode m c b = RefusesChunkDecoding m (chunk_kind c) (chunk_fill c) (shape_of c) b

-- why a part of a chunk with these bytes is not read
abbrev pub RefusesToDecodePart : ChainMeaning → ChunkType → Box → List ℕ → Bool → PartError → Type 0
RefusesToDecodePart m c part b refuses =
    RefusesPartDecoding (decoded_of m c b) (IsTooLargeToDecode m (chunk_kind c) (chunk_fill c) (shape_of c) part b) refuses

-- the data is what a part of the chunk holds
abbrev pub HoldsPart : ChainMeaning → ChunkType → Box → List ℕ → ArrayData → Type 0
HoldsPart m c part b made = DecodesPart (chunk_kind c) (shape_of c) part (decoded_of m c b) made

-- a target that began as `t` holds a part of the chunk in its box
abbrev pub HoldsPartAt : ChainMeaning → ChunkType → Box → List ℕ → ArrayBytesDecodeIntoTarget → ArrayBytesDecodeIntoTarget → Type 0
HoldsPartAt m c part b t u = DecodesPartAt (chunk_kind c) (shape_of c) part (decoded_of m c b) (parent_box t) (target_box t) (data_of_target u)

-- the cells of bytes of a chunk of this type that has the shape of the target's box
abbrev pub decoded_in : ChainMeaning → CellType → ArrayBytesDecodeIntoTarget → List ℕ → Option (List Cell)
decoded_in m ct t b = m.decoded (kind_of ct) (filling ct) (target_box t).shape b

-- a target that began as `t` holds those cells in its box
abbrev pub HoldsChunk : ChainMeaning → CellType → List ℕ → ArrayBytesDecodeIntoTarget → ArrayBytesDecodeIntoTarget → Type 0
HoldsChunk m ct b t u = DecodesInto (kind_of ct) (parent_box t) (target_box t) (decoded_in m ct t b) (data_of_target u)

-- what is done with the key of a chunk for the data of a part, and why it is refused
abbrev pub partial_encoding_as : ChainMeaning → Bool → ChunkType → Option (List ℕ) → Box → ArrayData → Option PartialChange
partial_encoding_as m empty c stored part d = partial_encoding m empty (chunk_kind c) (chunk_fill c) (shape_of c) stored part d

abbrev pub RefusesToEncodePart : ChainMeaning → Bool → ChunkType → Option (List ℕ) → Box → ArrayData → CodecError → Type 0
RefusesToEncodePart m empty c stored part d = RefusesPartialEncoding m empty (chunk_kind c) (chunk_fill c) (shape_of c) stored part d
