-- What a read of a part of a shard into a target has there after some of its subchunks.
use Rattle.std.specs.Prelude.{◌≡◌, ℕ, true, Option, None, Some, option_map, List, ◌∷◌, [], ◌++◌}
use Rattle.zarrs_data_type.specs.ArrayData.{ArrayData}
use Rattle.zarrs_data_type.specs.Cells.{cell_at}
use Rattle.zarrs_codec_leaf.specs.declared.error.CodecError.TheVariants as codec
use Rattle.zarrs_codec_shard.specs.Subchunks.{quotients}
use Rattle.zarrs_codec_leaf.specs.declared.source.ByteSource.{Ghosts as SourceMeaning}
use Rattle.zarrs_subset.specs.Regions.{Box, Holds, place_in}
use Rattle.zarrs_data_type.specs.Cell.{Cell, is_value}
use Rattle.zarrs_data_type.specs.Kind.{Kind}
use Rattle.zarrs_codec_chain.specs.declared.error.PartError.{PartError}
use Rattle.zarrs_codec_chain.specs.declared.error.PartError.TheVariants.{Codec}
use Rattle.zarrs_codec_chain.specs.Chain.{ChainMeaning}
use Rattle.zarrs_codec_chain.specs.Chunks.{decoded_of}
use Rattle.zarrs_codec_chain.specs.Refusals.{IsTooLargeToDecode}
use Rattle.zarrs_data_type.specs.CellTypes.{chunk_fill, chunk_kind, shape_of}
use Rattle.zarrs_data_type.specs.States.{data_of_target, parent_box}
use Rattle.zarrs_data_type.specs.declared.chunk_type.ChunkType.{ChunkType}
use Rattle.zarrs_data_type_region.specs.declared.target.ArrayBytesDecodeIntoTarget.{ArrayBytesDecodeIntoTarget}
use Rattle.zarrs_codec_chain.specs.Stored.{bytes_of, refuses_of}
use Rattle.zarrs_codec_chain.specs.declared.stored.Stored.{Stored}
use Rattle.zarrs_codec_chain.specs.Parts.{DecodesPartAt, place_at}
use Rattle.zarrs_codec_chain.specs.PartRefusals.{RefusesPartDecoding}
use Rattle.zarrs_codec_chain.specs.ShardParts.{IsPartCell, is_among}

-- the cell is a value of the type, and the one that the parts of a shard have at a position
pub record IsPartValue (k : Kind) (decoded : List ℕ → Option (List Cell)) (fill : Cell) (shape sub : List ℕ)
    (parts : List (Option (List ℕ))) (position : List ℕ) (cell : Cell) : Type 0 where
  pub value : is_value k cell ≡ true
  pub same : IsPartCell decoded fill shape sub parts position (Some cell)

-- data over `box` has in the box `own` the cells that these subchunks have of the part
abbrev pub HasSubchunksAt : Kind → (List ℕ → Option (List Cell)) → (fill : Cell) (shape sub : List ℕ) (part : Box)
    → List (Option (List ℕ)) → (done : List (List ℕ)) (box own : Box) → ArrayData → Type 0
HasSubchunksAt k decoded fill shape sub part parts done box own held =
    (position : List ℕ) → Holds part position → is_among done (quotients position sub) ≡ true
    → IsPartValue k decoded fill shape sub parts position (cell_at k held (place_at box own part position))

-- the same of all of them
abbrev pub HasAllPartsAt : Kind → (List ℕ → Option (List Cell)) → (fill : Cell) (shape sub : List ℕ) (part : Box)
    → List (Option (List ℕ)) → (box own : Box) → ArrayData → Type 0
HasAllPartsAt k decoded fill shape sub part parts box own held =
    (position : List ℕ) → Holds part position
    → IsPartValue k decoded fill shape sub parts position (cell_at k held (place_at box own part position))

-- one more subchunk was read
abbrev pub ReadsSubchunkAt : Kind → (List ℕ → Option (List Cell)) → (fill : Cell) (shape sub : List ℕ) (part : Box)
    → List (Option (List ℕ)) → (index : List ℕ) (box own : Box) → ArrayData → ArrayData → Type 0
ReadsSubchunkAt k decoded fill shape sub part parts index box own old new =
    (done : List (List ℕ))
    → HasSubchunksAt k decoded fill shape sub part parts done box own old
    → HasSubchunksAt k decoded fill shape sub part parts (done ++ index ∷ []) box own new

-- data over `box` has a piece of a subchunk in the box `own`: an absent subchunk is all fill
abbrev pub DecodesPieceAt : Kind → (List ℕ → Option (List Cell)) → (fill : Cell) (sub : List ℕ) (piece : Box)
    → Option (List ℕ) → (box own : Box) → ArrayData → Type 0
DecodesPieceAt k decoded fill sub piece None box own held = (position : List ℕ) → Holds own position → cell_at k held (place_in box position) ≡ fill
DecodesPieceAt k decoded fill sub piece (Some encoded) box own held = DecodesPartAt k sub piece (decoded encoded) box own held

-- why a piece of a subchunk is not read
module _ {B : Type 0} {b : SourceMeaning B} where
  abbrev pub RefusesPiece : (List ℕ → Option (List Cell)) → (TooLarge : List ℕ → Type 0) → Option (Stored B b) → PartError → Type 0
  RefusesPiece decoded TooLarge None e = e ≡ Codec codec.OutOfMemory
  RefusesPiece decoded TooLarge (Some own) e = RefusesPartDecoding (decoded (bytes_of own)) (TooLarge (bytes_of own)) (refuses_of own) e

  -- the same, of a subchunk under a chain
  abbrev pub RefusesPieceOf : ChainMeaning → ChunkType → (piece : Box) → Option (Stored B b) → PartError → Type 0
  RefusesPieceOf m c piece = RefusesPiece (decoded_of m c) (IsTooLargeToDecode m (chunk_kind c) (chunk_fill c) (shape_of c) piece)

  -- and what a target that began as `u` has of it in the box `own`
  abbrev pub HoldsPieceAt : ChainMeaning → ChunkType → (piece : Box) → Option (Stored B b) → (own : Box) → (u v : ArrayBytesDecodeIntoTarget) → Type 0
  HoldsPieceAt m c piece stored own u v =
      DecodesPieceAt (chunk_kind c) (decoded_of m c) (chunk_fill c) (shape_of c) piece (option_map bytes_of stored) (parent_box u) own (data_of_target v)
