-- What the calls refuse, and which refusal comes first.
use Rattle.std.specs.Prelude.{◌≡◌, ℕ, ◌*◌, ◌^◌, ◌==◌, ◌&&◌, not, nat_le, Bool, if◌then◌else◌, List, length, Option}
use Rattle.std.specs.Prelude.{Some, None, is_some}
use Rattle.std.specs.List.{list_all}
use Rattle.std.specs.Option.{option_or}
use Rattle.zarrs_subset.specs.Boxes.{position_count}
use Rattle.zarrs_subset.specs.Regions.{Box, box_of}
use Rattle.zarrs_chunk_grid.specs.Grids.{box_at, has_box}
use Rattle.zarrs_storage.specs.Store.{StoreState}
use Rattle.zarrs_storage.specs.declared.error.StorageError.{StorageError}
use Rattle.zarrs_storage.specs.declared.error.StorageError.TheVariants as stored
use Rattle.zarrs_codec_leaf.specs.declared.error.CodecError.{CodecError}
use Rattle.zarrs_codec_leaf.specs.declared.error.CodecError.TheVariants as coded
use Rattle.zarrs_data_type_elements.specs.declared.error.ElementError.TheVariants as elements
use Rattle.zarrs_data_type.specs.Kind.{cell_size}
use Rattle.zarrs_data_type.specs.Cell.{Cell, cell_eq, held_size}
use Rattle.zarrs_data_type.specs.Cells.{cells}
use Rattle.zarrs_engine_calls.specs.declared.error.ArrayError.{ArrayError}
use Rattle.zarrs_engine_calls.specs.declared.error.ArrayError.TheVariants as error
use Rattle.zarrs_engine_calls.specs.Layout.{Layout}
use Rattle.zarrs_engine_calls.specs.Content.{decoded_cells}

-- a refusal, by what it says: `array_subset` is E1, `chunk_subset` E2, and so on to E10
pub data Refusal : Type 0 where
  -- E1: a region, and the array's shape
  array_subset : Box → List ℕ → Refusal
  -- E2: a part, its chunk's indices and shape
  chunk_subset : Box → List ℕ → List ℕ → Refusal
  -- E3: these indices
  indices : List ℕ → Refusal
  -- E4
  codec : Refusal
  -- E5
  element : Refusal
  -- E6: the shape that was given, and the one that was wanted
  data_shape : List ℕ → List ℕ → Refusal
  -- E7
  storage : Refusal
  -- E8
  size_overflow : Refusal
  -- E9
  out_of_memory : Refusal
  -- E10: the number of dimensions that was given, and the one that was wanted
  dimensionality : ℕ → ℕ → Refusal
  -- E28: the array's shape may not change
  unsupported : Refusal
  -- one that no call returns
  unused : Refusal

-- the refusal that an error is
abbrev pub refusal_of : ArrayError → Refusal
refusal_of (error.InvalidArraySubset region shape) = array_subset (box_of region) shape.items
refusal_of (error.InvalidChunkSubset part index shape) = chunk_subset (box_of part) index.items shape.items
refusal_of (error.InvalidChunkGridIndicesError index) = indices index.items
refusal_of (error.CodecError (coded.DoesNotFit _)) = codec
refusal_of (error.CodecError coded.SizeOverflow) = unused
refusal_of (error.CodecError coded.OutOfMemory) = unused
refusal_of (error.ElementError elements.IncompatibleElementType) = element
refusal_of (error.ElementError elements.OutOfMemory) = unused
refusal_of (error.InvalidDataShape got expected) = data_shape got.items expected.items
refusal_of (error.StorageError (stored.InvalidMetadata key said)) = storage
refusal_of (error.StorageError stored.ReadOnly) = storage
refusal_of (error.StorageError stored.InvalidByteRange) = storage
refusal_of (error.StorageError stored.Exhausted) = storage
refusal_of (error.StorageError (stored.Other said)) = storage
refusal_of (error.StorageError stored.OutOfMemory) = unused
refusal_of error.SizeOverflow = size_overflow
refusal_of error.OutOfMemory = out_of_memory
refusal_of (error.IncompatibleDimensionalityError e) = dimensionality e.got e.expected
refusal_of (error.ArrayBytesFixedDisjointViewCreateError e) = unused
refusal_of (error.ArraySubsetError e) = unused
refusal_of (error.UnexpectedChunkDecodedSize got expected) = unused
refusal_of (error.InvalidBytesInputSize got expected) = unused
refusal_of (error.UnexpectedChunkDecodedShape got expected) = unused
refusal_of (error.UnsupportedMethod said) = unsupported
refusal_of (error.Other said) = unused

-- the number by which a refusal is named: E1 to E10, and E28
abbrev pub refusal_number : Refusal → ℕ
refusal_number (array_subset region shape) = 1
refusal_number (chunk_subset part index shape) = 2
refusal_number (indices index) = 3
refusal_number codec = 4
refusal_number element = 5
refusal_number (data_shape got expected) = 6
refusal_number storage = 7
refusal_number size_overflow = 8
refusal_number out_of_memory = 9
refusal_number (dimensionality got expected) = 10
refusal_number unsupported = 28
refusal_number unused = 0

-- the refusal that a store's refusal becomes
abbrev pub refusal_of_storage : StorageError → Refusal
refusal_of_storage stored.OutOfMemory = out_of_memory
refusal_of_storage (stored.InvalidMetadata key said) = storage
refusal_of_storage stored.ReadOnly = storage
refusal_of_storage stored.InvalidByteRange = storage
refusal_of_storage stored.Exhausted = storage
refusal_of_storage (stored.Other said) = storage

-- the refusal that a codec's refusal becomes
abbrev pub refusal_of_codec : CodecError → Refusal
refusal_of_codec (coded.DoesNotFit _) = codec
refusal_of_codec coded.SizeOverflow = size_overflow
refusal_of_codec coded.OutOfMemory = out_of_memory

-- the index list has another length than the grid has dimensions
abbrev pub length_refusal : Layout → List ℕ → Option Refusal
length_refusal layout index = if length index == layout.grid.dimensions then None else Some (indices index)

-- the cells of a chunk of this shape take more bytes than a usize counts
abbrev pub is_too_large : Layout → List ℕ → Bool
is_too_large layout shape = nat_le (2 ^ 64) (position_count shape * cell_size layout.kind)

-- the index list has no box, or its box is too large
abbrev pub box_refusal : Layout → List ℕ → Option Refusal
box_refusal layout index =
    if not (has_box layout.grid index) then Some (indices index)
    else if is_too_large layout (box_at layout.grid index).shape then Some size_overflow
    else None

-- the key of a chunk with these cells is left absent: empty chunks are not kept, and each cell is the fill value's
abbrev pub is_left_out : Layout → Bool → List Cell → Bool
is_left_out layout keep cells = not keep && list_all (λ cell. cell_eq cell layout.fill) cells

-- the bytes of the cells of a chunk of this shape
abbrev pub encoded_cells : Layout → Bool → List ℕ → List Cell → Option (List ℕ)
encoded_cells layout keep shape cells = layout.chain.encoded keep layout.kind layout.fill shape cells

-- the chain takes no such chunk, or its bytes pass a size
abbrev pub encode_refusal : Layout → Bool → List ℕ → List Cell → Option Refusal
encode_refusal layout keep shape cells =
    if is_some (encoded_cells layout keep shape cells) then None
    else if layout.chain.fits layout.kind shape then Some size_overflow
    else Some codec

-- the data is not one cell of the type for each position of the shape, or its bytes cannot be made
abbrev pub data_refusal : Layout → Bool → List ℕ → Option (List Cell) → Option Refusal
data_refusal layout keep shape None = Some codec
data_refusal layout keep shape (Some cells) =
    if not (length cells == position_count shape) then Some codec
    else if is_left_out layout keep cells then None
    else encode_refusal layout keep shape cells

-- the refusal, if this is so
abbrev pub refuse_if : Bool → Refusal → Option Refusal
refuse_if said refusal = if said then Some refusal else None

-- the cells of an absent chunk of this shape take more bytes than a usize counts
abbrev pub fill_refusal : Layout → List ℕ → Option Refusal
fill_refusal layout shape = refuse_if (nat_le (2 ^ 64) (position_count shape * held_size layout.kind layout.fill)) size_overflow

-- The refusal that the bytes at the key of a chunk decide if the chunk is read: the index list, the size, the
-- bytes, in this order. An absent chunk is asked for its box if its cells are needed.
abbrev pub read_refusal : Layout → Bool → List ℕ → Option (List ℕ) → Option Refusal
read_refusal layout needed index None = if needed then option_or (box_refusal layout index) (fill_refusal layout (box_at layout.grid index).shape) else None
read_refusal layout needed index (Some encoded) =
    option_or (box_refusal layout index) (if is_some (decoded_cells layout (box_at layout.grid index) encoded) then None else Some codec)

-- the store refuses to read the key of the chunk
abbrev pub key_refusal : Layout → List ℕ → StoreState → Option Refusal
key_refusal layout index state = if state.refuses (layout.key index) then Some storage else None

-- The call is refused because it is out of memory, which may come at any growth, or by the first refusal that is
-- decided.
abbrev pub RefusesBy : Option Refusal → Refusal → Type 0
RefusesBy first out_of_memory = Unit {0}
RefusesBy first refusal = first ≡ Some refusal
