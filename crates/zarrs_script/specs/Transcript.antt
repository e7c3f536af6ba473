-- What a script prints.
use Rattle.std.specs.Prelude.{◌≡◌, ◌⊎◌, ◌==◌, ℕ, ◌||◌, Bool, true, false, List, [], ◌∷◌, ◌++◌, map, codes, decimal}
use Rattle.std.specs.Prelude.{unwrap_or, Option, Some, None, option_map, Ok}
use Rattle.std.specs.List.{flat_map, list_any, join_with_byte}
use Rattle.std.specs.FinMap as finite
use Rattle.hex.specs.Hex.{encode_lower}
use Rattle.zarrs_storage.specs.Store.{StoreState, Values}
use Rattle.zarrs_storage.specs.Memory.{open_state}
use Rattle.zarrs_metadata_parts.specs.declared.separators.ChunkKeySeparator.TheVariants.{Slash}
use Rattle.zarrs_metadata_v3.specs.Document.{DocumentData}
use Rattle.zarrs_metadata.specs.Versions.{MetadataData, v3}
use Rattle.zarrs_keys.specs.Encodings.{default_key}
use Rattle.zarrs_chunk_grid.specs.Configurations.{regular, grid_of, takes_shape}
use Rattle.zarrs_data_type.specs.ArrayData.{ArrayData, data_of}
use Rattle.zarrs_data_type.specs.Cells.{cells}
use Rattle.zarrs_codec_leaf.specs.Bytes.{bytes_meaning}
use Rattle.zarrs_codec_array.specs.Arrays.{same_array}
use Rattle.zarrs_codec.specs.Configurations.{whole_chunk, with_places}
use Rattle.zarrs_codec.specs.Through.{through_all}
use Rattle.zarrs_codec_chain.specs.Places.{cell_places}
use Rattle.zarrs_engine_calls.specs.declared.call.Call.{Call}
use Rattle.zarrs_engine_calls.specs.declared.call.Reply.{Reply}
use Rattle.zarrs_engine_calls.specs.declared.call.Reply.TheVariants.{Done, Compacted, Cells, MaybeCells, Refused}
use Rattle.zarrs_engine_calls.specs.Canon.{IsCanonicalMap}
use Rattle.zarrs_engine_calls.specs.Content.{value_at, content}
use Rattle.zarrs_engine_calls.specs.Layout.{Layout, layout_at, ArrayState}
use Rattle.zarrs_engine_calls.specs.Refusals.{refusal_of, refusal_number}
use Rattle.zarrs_engine_calls.specs.Step.{Step}
use Rattle.zarrs_creation.specs.Changes.{with_shape}
use Rattle.zarrs_creation.specs.Meanings.{Meaning, creation_v3}
use Rattle.zarrs_script.specs.Parts.{parts_for, document_for, text_of_metadata}
use Rattle.zarrs_script.specs.declared.cell_type.CellType.{CellType}
use Rattle.zarrs_script.specs.CellTypes.{kind_of_cells}
use Rattle.zarrs_script.specs.CellTexts.{cell_text}
use Rattle.zarrs_script.specs.Script.{Order, Array, Keys, Meta}
use Rattle.zarrs_script.specs.Parsed.{order_of_call}

-- an open array: the type of its cells, what its parts mean, its metadata, its store and its shape
pub record Opened : Type 0 where
  pub cell_type : CellType
  pub layout : Layout
  pub metadata : MetadataData
  pub state : ArrayState

-- what lines speak to: nothing before the first array, and after a refused one
abbrev pub Session : Type 0
Session = Option Opened

abbrev pub line : List ℕ → List ℕ
line text = text ++ 10 ∷ []

abbrev pub refusal : ℕ → List ℕ
refusal number = line (codes "refused E" ++ decimal number)

-- texts joined by commas, or `-` for none
abbrev pub list_text : List (List ℕ) → List ℕ
list_text [] = codes "-"
list_text (text ∷ texts) = join_with_byte 44 (text ∷ texts)

-- the line of the cells that the data stands for
abbrev pub data_text : CellType → ArrayData → Option (List ℕ)
data_text cell_type held =
    option_map (λ given. line (list_text (map (cell_text cell_type) given))) (cells (kind_of_cells cell_type) held)

-- the line of a reply; of data there is one if it stands for cells; no line asks for a compaction
abbrev pub reply_text : CellType → Reply → Option (List ℕ)
reply_text cell_type Done = Some (line (codes "ok"))
reply_text cell_type (Compacted answer) = Some (line (codes "ok"))
reply_text cell_type (Cells held) = data_text cell_type (data_of held)
reply_text cell_type (MaybeCells (Some held)) = data_text cell_type (data_of held)
reply_text cell_type (MaybeCells None) = Some (line (codes "none"))
reply_text cell_type (Refused error) = Some (refusal (refusal_number (refusal_of error)))

abbrev pub is_refusal : Reply → Bool
is_refusal (Refused error) = true
is_refusal _ = false

-- the bytes that are present at a key
abbrev pub bytes_at : Values → List ℕ → List ℕ
bytes_at values key = unwrap_or (finite.get values key) []

-- a key and its bytes in hexadecimal
abbrev pub key_text : Values → List ℕ → List ℕ
key_text values key = line (key ++ 32 ∷ encode_lower (bytes_at values key))

-- a line for each of the keys
abbrev pub lines_of_keys : Values → List (List ℕ) → List ℕ
lines_of_keys values [] = line (codes "none")
lines_of_keys values (key ∷ keys) = flat_map (key_text values) (key ∷ keys)

-- the keys of a map and their values, in ascending order of their bytes
abbrev pub keys_text : Values → List ℕ
keys_text values = lines_of_keys values (finite.keys values)

-- The text lists what an array holds, a function from positions to cells: a line for each chunk whose box has a cell other
-- than fill, with its key and the bytes of its cells.
abbrev pub ListsContent : Opened → List ℕ → Type 0
ListsContent array text =
    ∥ ((values : Values) × IsCanonicalMap array.layout (content array.layout (value_at array.state.store)) values
    × (text ≡ keys_text values)) ∥₁

-- what one line did: its text, whether it holds a refusal, and the session after it
pub record Outcome : Type 0 where
  pub text : List ℕ
  pub refused : Bool
  pub after : Session

-- a chunk's extents make a `regular` grid of a shape: there is one for each dimension, and none of them is 0
pub record MakesGrid (shape chunk_shape : List ℕ) : Type 0 where
  pub taken : takes_shape (regular chunk_shape) shape ≡ true
  pub nonzero : list_any (λ extent. extent == 0) chunk_shape ≡ false

-- what the parts of a new array mean: the `regular` grid, `default` keys with `/` at the path `/`, the codec `bytes`
abbrev pub layout_for : List ℕ → List ℕ → CellType → List ℕ → Layout
layout_for shape chunk_shape cell_type fill =
    layout_at (grid_of (regular chunk_shape) shape) (codes "/") (default_key Slash)
    (through_all true same_array (with_places cell_places (whole_chunk bytes_meaning))) (kind_of_cells cell_type) fill

-- the parts of a new array
abbrev pub parts_of_line : List ℕ → List ℕ → CellType → List ℕ → Meaning
parts_of_line shape chunk_shape cell_type fill = parts_for shape chunk_shape (kind_of_cells cell_type) fill

-- the metadata of a new array, which says its parts
abbrev pub metadata_for : List ℕ → List ℕ → CellType → List ℕ → DocumentData
metadata_for shape chunk_shape cell_type fill = document_for (parts_of_line shape chunk_shape cell_type fill)

-- a store in memory that holds nothing
abbrev pub new_store : StoreState
new_store = open_state (record { values = finite.empty; calls = 0; failures = 0; parts = 0 })

-- a new array of this shape
abbrev pub new_array : List ℕ → List ℕ → CellType → List ℕ → Opened
new_array shape chunk_shape cell_type fill = record {
  cell_type = cell_type;
  layout = layout_for shape chunk_shape cell_type fill;
  metadata = v3 (metadata_for shape chunk_shape cell_type fill);
  state = record { store = new_store; shape = shape };
}

-- the metadata of a new array says its parts
abbrev pub SaysItsParts : List ℕ → List ℕ → CellType → List ℕ → Type 0
SaysItsParts shape chunk_shape cell_type fill =
    creation_v3 (metadata_for shape chunk_shape cell_type fill) ≡ Ok (parts_of_line shape chunk_shape cell_type fill)

-- A new array is open, or it is refused: E18 if the chunk's extents make no grid of the shape, E26 if out of memory.
abbrev pub Opens : List ℕ → List ℕ → CellType → List ℕ → Outcome → Type 0
Opens shape chunk_shape cell_type fill outcome =
    (MakesGrid shape chunk_shape × SaysItsParts shape chunk_shape cell_type fill
    × (outcome ≡ record { text = line (codes "ok"); refused = false; after = Some (new_array shape chunk_shape cell_type fill) }))
    ⊎ ((MakesGrid shape chunk_shape → ⊥) × (outcome ≡ record { text = refusal 18; refused = true; after = None }))
    ⊎ (outcome ≡ record { text = refusal 26; refused = true; after = None })

-- the array in another state: its metadata has the shape that it has then
abbrev pub opened_at : ArrayState → Opened → Opened
opened_at state array = record array { metadata = with_shape state.shape array.metadata; state = state }

-- The call that the line asks for makes a step of the engine, which stores no empty chunks, and its reply is printed.
pub record Calls (order : Order) (before : Opened) (outcome : Outcome) : Type 0 where
  pub call : Call
  pub asks : order_of_call call ≡ order
  pub reply : Reply
  pub state : ArrayState
  pub step : Step before.layout false call reply before.state state
  pub prints : reply_text before.cell_type reply ≡ Some outcome.text
  pub refused : outcome.refused ≡ is_refusal reply
  pub after : outcome.after ≡ Some (opened_at state before)

-- A `keys` line lists what the array holds, and leaves it.
pub record Lists (array : Opened) (outcome : Outcome) : Type 0 where
  pub lists : ListsContent array outcome.text
  pub refused : outcome.refused ≡ false
  pub after : outcome.after ≡ Some array

-- what a line may do
abbrev pub Does : Session → Order → Outcome → Type 0
Does before (Array shape chunk_shape cell_type fill) outcome = Opens shape chunk_shape cell_type fill outcome
-- without an open array nothing is done
Does None order outcome = outcome ≡ record { text = line (codes "skipped"); refused = false; after = None }
Does (Some array) Keys outcome = Lists array outcome
Does (Some array) Meta outcome = outcome ≡ record { text = line (text_of_metadata array.metadata); refused = false; after = Some array }
Does (Some array) order outcome = Calls order array outcome

-- the outcome of lines, one after the other
abbrev pub Transcript : Session → List Order → Outcome → Type 0
Transcript before [] outcome = outcome ≡ record { text = []; refused = false; after = before }
Transcript before (order ∷ orders) outcome =
    (first : Outcome) × Does before order first × (rest : Outcome) × Transcript first.after orders rest
    × (outcome ≡ record { text = first.text ++ rest.text; refused = first.refused || rest.refused; after = rest.after })
