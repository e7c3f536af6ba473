-- Chains of codecs by what configures them, and what each means.
use Rattle.std.specs.Prelude.{ℕ, Bool, true, false, Some, None, List, [], ◌∷◌}
use Rattle.zarrs_subset.specs.Boxes.{position_count}
use Rattle.zarrs_codec_array.specs.Configurations.{ArrayCodecData, meaning_of_array_codecs}
use Rattle.zarrs_codec_leaf.specs.Leaf.{LeafMeaning}
use Rattle.zarrs_codec_optional.specs.Configurations.{CellsCodecData, plain, meaning_of_cells_codec}
use Rattle.zarrs_codec_optional.specs.PlainCodecs.{bytes}
use Rattle.zarrs_codec_chain.specs.Places.{Places, all_places, cell_places}
use Rattle.zarrs_codec_chain.specs.Chain.{ChainMeaning, decodes_stored, is_too_large}
use Rattle.zarrs_codec.specs.Shardings.{sharded}
use Rattle.zarrs_codec.specs.Through.{through_all}

-- an array-to-bytes codec with its configuration
pub data BytesCodecData : Type 0 where
  -- a codec that looks at cells alone
  cells : CellsCodecData → BytesCodecData
  -- one of shards, with the chain of the subchunks
  sharding : (chunk_shape : List ℕ) → (at_start : Bool) → (front : List ArrayCodecData) → (last : BytesCodecData) → BytesCodecData

-- whether a codec is one of plain cells
abbrev pub is_plain : BytesCodecData → Bool
is_plain (cells (plain codec)) = true
is_plain codec = false

-- a chain: array-to-array codecs, the first one first, then one array-to-bytes codec
pub record ChainData : Type 0 where
  pub array_to_array : List ArrayCodecData
  pub array_to_bytes : BytesCodecData

-- a codec that takes no cells
abbrev pub no_cells : LeafMeaning
no_cells = record { takes = λ k. false; encoded = λ k cs. None; decoded = λ k n b. None }

-- what an array-to-bytes codec means to cells alone, whatever the shape of their array: one of shards takes none
abbrev pub cells_meaning_of : BytesCodecData → LeafMeaning
cells_meaning_of (cells codec) = meaning_of_cells_codec codec
cells_meaning_of (sharding chunk_shape at_start front last) = no_cells

-- a codec of cells as a chain: the cells are those of the whole chunk, and its bytes are compact
abbrev pub whole_chunk : LeafMeaning → ChainMeaning
whole_chunk leaf = record {
  fits = λ k s. leaf.takes k;
  encoded = λ empty k f s cs. leaf.encoded k cs;
  decoded = λ k f s b. leaf.decoded k (position_count s) b;
  compacts = false;
  compacted = λ s b. Some None;
  leaves_out = λ s b. false;
  encodes_partly = false;
  partly_encoded = λ empty k f s stored part cs. None;
  places = all_places;
  reads_too_large = λ k f s part b. is_too_large false k f s;
  partly_decodes = λ k f s stored part. decodes_stored (leaf.decoded k (position_count s)) stored;
  partly_too_large = λ k f s stored part. false;
}

-- a chain whose reads of parts need these places, and decode nothing whole
abbrev pub with_places : Places → ChainMeaning → ChainMeaning
with_places places m = record m { places = places; reads_too_large = λ k f s part b. false }

-- a codec of cells takes the cells of the whole chunk; a part under `bytes` is read by the places of its cells
abbrev pub meaning_of_whole_codec : CellsCodecData → ChainMeaning
meaning_of_whole_codec (plain (bytes endian)) = with_places cell_places (whole_chunk (meaning_of_cells_codec (plain (bytes endian))))
meaning_of_whole_codec codec = whole_chunk (meaning_of_cells_codec codec)

-- whether there is no codec
abbrev pub no_array_codec : List ArrayCodecData → Bool
no_array_codec [] = true
no_array_codec (codec ∷ more) = false

-- the chain `m` behind array-to-array codecs: parts are written, and read by themselves, only if there is none
abbrev pub behind_codecs : List ArrayCodecData → ChainMeaning → ChainMeaning
behind_codecs codecs m = through_all (no_array_codec codecs) (meaning_of_array_codecs codecs) m

-- what an array-to-bytes codec means: one of shards takes the cells of each subchunk, by the chain of the subchunks
abbrev pub meaning_of_bytes_codec : BytesCodecData → ChainMeaning
meaning_of_bytes_codec (cells codec) = meaning_of_whole_codec codec
meaning_of_bytes_codec (sharding chunk_shape at_start front last) = sharded at_start chunk_shape (behind_codecs front (meaning_of_bytes_codec last))

-- what a chain means
abbrev pub meaning_of_chain : ChainData → ChainMeaning
meaning_of_chain chain = behind_codecs chain.array_to_array (meaning_of_bytes_codec chain.array_to_bytes)
