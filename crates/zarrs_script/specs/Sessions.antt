-- The sessions that values of the code stand for, and what is still to be written.
use Rattle.std.specs.Prelude.{◌≡◌, ℕ, Bool, List, ◌++◌, Option, Some, None, Result, Ok, Err}
use Rattle.std.specs.Io.KnownBytes.{Appends}
use Rattle.zarrs_storage.specs.Memory.{open_state}
use Rattle.zarrs_metadata_v3.specs.View.{document_view}
use Rattle.zarrs_metadata_v3.specs.declared.document.ArrayMetadataV3.{ArrayMetadataV3}
use Rattle.zarrs.specs.Arrays.{layout_of_array, metadata_of_array, meaning_of_array, state_of_array}
use Rattle.zarrs_script.specs.declared.command.Creation.{Creation}
use Rattle.zarrs_script.specs.declared.array.OpenArray.{OpenArray}
use Rattle.zarrs_script.specs.declared.error.CreationError.{CreationError}
use Rattle.zarrs_script.specs.declared.error.CreationError.TheVariants.{NoGrid, OutOfMemory}
use Rattle.zarrs_script.specs.Script.{Order}
use Rattle.zarrs_script.specs.Transcript.{Opened, Session, Transcript, MakesGrid, SaysItsParts, parts_of_line, metadata_for, new_array}

-- what an open array is
abbrev pub opened : OpenArray → Opened
opened array = record {
  cell_type = array.cell_type;
  layout = layout_of_array array.array;
  metadata = metadata_of_array array.array;
  state = state_of_array open_state array.array;
}

-- the session that an array, or none, stands for
abbrev pub session_of : Option OpenArray → Session
session_of None = None
session_of (Some array) = Some (opened array)

-- why there is no array: the chunk's extents make no grid of the shape, or out of memory
abbrev pub HasNoArray : Creation → CreationError → Type 0
HasNoArray creation NoGrid = MakesGrid creation.shape.items creation.chunk_shape.items → ⊥
HasNoArray creation OutOfMemory = Unit {0}

-- the metadata of a new array says the parts of the line
abbrev pub Describes : Creation → Result ArrayMetadataV3 CreationError → Type 0
Describes creation (Ok m) =
    MakesGrid creation.shape.items creation.chunk_shape.items
    × SaysItsParts creation.shape.items creation.chunk_shape.items creation.cell_type creation.fill.items
    × (document_view m ≡ metadata_for creation.shape.items creation.chunk_shape.items creation.cell_type creation.fill.items)
Describes creation (Err error) = HasNoArray creation error

-- a new array is what the line says, or it has no grid, or out of memory
abbrev pub Creates : Creation → Result OpenArray CreationError → Type 0
Creates creation (Ok array) =
    MakesGrid creation.shape.items creation.chunk_shape.items
    × SaysItsParts creation.shape.items creation.chunk_shape.items creation.cell_type creation.fill.items
    × (opened array ≡ new_array creation.shape.items creation.chunk_shape.items creation.cell_type creation.fill.items)
Creates creation (Err error) = HasNoArray creation error

-- the parts of a new array are those of the line
abbrev pub HasParts : Creation → OpenArray → Type 0
HasParts creation array = meaning_of_array array.array ≡ parts_of_line creation.shape.items creation.chunk_shape.items creation.cell_type creation.fill.items

-- new is old with such a text after it
abbrev pub Prints : List ℕ → List ℕ → (List ℕ → Type 0) → Type 0
Prints old new IsSuch = (text : List ℕ) × (new ≡ old ++ text) × IsSuch text

-- What is pending is written later. Such a text followed it: a front of both was written, and the rest is pending now.
abbrev pub Puts : (old new : Option (List ℕ)) (pending left : List ℕ) → (List ℕ → Type 0) → Type 0
Puts old new pending left IsSuch = (text : List ℕ) × (written : List ℕ) × Appends old new written × (pending ++ text ≡ written ++ left) × IsSuch text

-- the orders were done, from one session to the next
abbrev pub Follows : Session → List Order → List ℕ → Bool → Session → Type 0
Follows before orders text refused after = Transcript before orders (record { text = text; refused = refused; after = after })

-- the orders of a script were done, from a session with no array
abbrev pub HasRun : List Order → List ℕ → Bool → Type 0
HasRun orders text refused = (after : Session) × Follows None orders text refused after
