-- What a chain of codecs means: which bytes stand for the cells of a chunk.
use Rattle.std.specs.Prelude.{◌≡◌, ◌≢◌, ℕ, ◌*◌, ◌<◌, ◌^◌, Bool, true, false, Option, None, Some, List, length, replicate, is_some, nat_le, option_and_then}
use Rattle.std.specs.Prelude.{◌==◌, ◌&&◌, ◌||◌, if◌then◌else◌}
use Rattle.zarrs_data_type.specs.Kind.{Kind, cell_size}
use Rattle.zarrs_data_type.specs.Cell.{Cell, held_size, is_value, are_values}
use Rattle.zarrs_data_type.specs.ArrayData.{ArrayData}
use Rattle.zarrs_data_type.specs.Cells.{cells}
use Rattle.zarrs_subset.specs.Boxes.{position_count}
use Rattle.zarrs_subset.specs.Regions.{Box}
use Rattle.zarrs_codec_shard.specs.PartialShards.{PartialChange, after, IsUpdated}
use Rattle.zarrs_codec_chain.specs.Deciding.{PlacesDecide}
use Rattle.zarrs_codec_chain.specs.Places.{Places}

-- whether a chunk is too large to be decoded whole: a usize does not count the bytes of its cells, or of its fill if its bytes
-- leave out cells
abbrev pub is_too_large : (leaves_out : Bool) → Kind → (fill : Cell) (shape : List ℕ) → Bool
is_too_large leaves_out k f s =
    nat_le (2 ^ 64) (position_count s * cell_size k) || (leaves_out && nat_le (2 ^ 64) (position_count s * held_size k f))

-- A chain as functions of values. Everything that calls a chain speaks of it by these and their law.
pub record ChainMeaning : Type 0 where
  -- whether the chain takes cells of this type in chunks of this shape
  pub fits : (kind : Kind) (shape : List ℕ) → Bool
  -- the bytes of a chunk's cells, or nothing if the chunk does not fit or a size is too large
  pub encoded : (store_empty : Bool) (kind : Kind) (fill : Cell) (shape : List ℕ) (cells : List Cell) → Option (List ℕ)
  -- the cells of a chunk's bytes, or nothing if they are the bytes of no cells
  pub decoded : (kind : Kind) (fill : Cell) (shape : List ℕ) (encoded : List ℕ) → Option (List Cell)
  -- whether some bytes may have a compaction
  pub compacts : Bool
  -- the compaction of a chunk's bytes: nothing if they do not decode, none if they are compact
  pub compacted : (shape : List ℕ) (encoded : List ℕ) → Option (Option (List ℕ))
  -- whether the bytes leave out cells, which are then fill
  pub leaves_out : (shape : List ℕ) (encoded : List ℕ) → Bool
  -- whether the cells of a part are written into the bytes of their chunk
  pub encodes_partly : Bool
  -- what is done with the key of a chunk for the cells of a part, from the bytes that it has or its absence: nothing if
  -- the chunk does not fit, the bytes do not decode or a size is too large
  pub partly_encoded : (store_empty : Bool) (kind : Kind) (fill : Cell) (shape : List ℕ) (stored : Option (List ℕ)) (part : Box) (cells : List Cell)
      → Option PartialChange
  -- the places of a chunk's bytes that a read of a part of its cells needs
  pub places : Places
  -- whether something that such a read decodes whole is too large: the chunk, or a subchunk that the part meets
  pub reads_too_large : (kind : Kind) (fill : Cell) (shape : List ℕ) (part : Box) (encoded : List ℕ) → Bool
  -- whether what stands at a key decodes where a write of this part reads it: its absence does, and what is too large to be
  -- decoded counts as if it did
  pub partly_decodes : (kind : Kind) (fill : Cell) (shape : List ℕ) (stored : Option (List ℕ)) (part : Box) → Bool
  -- whether a subchunk that such a write decodes is too large: a usize does not count the bytes of its cells, or of its fill
  -- where what stands leaves out cells
  pub partly_too_large : (kind : Kind) (fill : Cell) (shape : List ℕ) (stored : Option (List ℕ)) (part : Box) → Bool

-- whether what stands at a key decodes: its absence does
abbrev pub decodes_stored : (decoded : List ℕ → Option (List Cell)) (stored : Option (List ℕ)) → Bool
decodes_stored decoded None = true
decodes_stored decoded (Some b) = is_some (decoded b)

-- the cells of a chunk, from the bytes of its key or its absence
abbrev pub chunk_cells : ChainMeaning → Kind → Cell → List ℕ → Option (List ℕ) → Option (List Cell)
chunk_cells chain k f s None = Some (replicate (position_count s) f)
chunk_cells chain k f s (Some b) = chain.decoded k f s b

-- whether they leave out cells
abbrev pub chunk_leaves_out : ChainMeaning → List ℕ → Option (List ℕ) → Bool
chunk_leaves_out chain s None = true
chunk_leaves_out chain s (Some b) = chain.leaves_out s b

-- the law of a chain
pub record IsLawfulChain (chain : ChainMeaning) : Type 0 where
  -- values, one for each position of the chunk, decode to what was encoded
  pub round_trip : (empty : Bool) (k : Kind) (f : Cell) (s : List ℕ) (cs : List Cell) (b : List ℕ)
      → are_values k cs ≡ true → length cs ≡ position_count s
      → chain.encoded empty k f s cs ≡ Some b → chain.decoded k f s b ≡ Some cs
  -- one cell decodes for each position of the chunk
  pub decoded_len : (k : Kind) (f : Cell) (s b : List ℕ) (cs : List Cell) → chain.decoded k f s b ≡ Some cs → length cs ≡ position_count s
  -- what decodes are values
  pub decoded_values : (k : Kind) (f : Cell) (s b : List ℕ) (cs : List Cell) → chain.decoded k f s b ≡ Some cs → are_values k cs ≡ true
  -- a compaction decodes to the same, if a u64 counts its bytes
  pub compacted_same : (k : Kind) (f : Cell) (s b less : List ℕ) → chain.compacted s b ≡ Some (Some less) → length less < 2 ^ 64
      → chain.decoded k f s less ≡ chain.decoded k f s b
  -- and differs from what was compacted
  pub compacted_differs : (s b less : List ℕ) → chain.compacted s b ≡ Some (Some less) → less ≢ b
  -- what was encoded has no compaction
  pub encoded_compact : (empty : Bool) (k : Kind) (f : Cell) (s : List ℕ) (cs : List Cell) (b : List ℕ)
      → length cs ≡ position_count s → chain.encoded empty k f s cs ≡ Some b → chain.compacted s b ≡ Some None
  -- nothing is encoded that does not fit
  pub unfit : (empty : Bool) (k : Kind) (f : Cell) (s : List ℕ) (cs : List Cell) → chain.fits k s ≡ false → chain.encoded empty k f s cs ≡ None
  -- nor decoded
  pub unfit_decoded : (k : Kind) (f : Cell) (s b : List ℕ) → chain.fits k s ≡ false → chain.decoded k f s b ≡ None
  -- what a partial encode leaves decodes to the updated cells, if what was stored decodes
  pub partly_updates : (empty : Bool) (k : Kind) (f : Cell) (s : List ℕ) (stored : Option (List ℕ)) (part : Box) (given held : List Cell)
      (change : PartialChange)
      → is_value k f ≡ true → are_values k given ≡ true → length given ≡ position_count part.shape
      → length part.start ≡ length s → length part.shape ≡ length s
      → chain.partly_encoded empty k f s stored part given ≡ Some change → chunk_cells chain k f s stored ≡ Some held
      → IsUpdated s part given held (chunk_cells chain k f s (after change stored))
  -- a read of a part needs no place past the bytes
  pub places_inside : (k : Kind) (s : List ℕ) (part : Box) (b : List ℕ) (place : ℕ) → chain.places k s part b place ≡ true → place < length b
  -- and these places decide its cells
  pub places_decide : PlacesDecide chain.decoded chain.places
  -- nothing that it decodes whole is too large, if neither the chunk nor its fill is
  pub reads_within : (k : Kind) (f : Cell) (s : List ℕ) (part : Box) (b : List ℕ)
      → position_count s * cell_size k < 2 ^ 64 → position_count s * held_size k f < 2 ^ 64 → chain.reads_too_large k f s part b ≡ false

-- the bytes of a chunk's data, if it is one cell for each position of the chunk
abbrev pub chunk_encoding : ChainMeaning → Bool → Kind → Cell → List ℕ → ArrayData → Option (List ℕ)
chunk_encoding chain empty k f s d =
    option_and_then (λ cs. if length cs == position_count s then chain.encoded empty k f s cs else None) (cells k d)

-- what is done with the key of a chunk for the data of a part
abbrev pub partial_encoding : ChainMeaning → Bool → Kind → Cell → List ℕ → Option (List ℕ) → Box → ArrayData → Option PartialChange
partial_encoding chain empty k f s stored part d = option_and_then (λ cs. chain.partly_encoded empty k f s stored part cs) (cells k d)
