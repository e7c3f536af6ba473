-- What the steps inside a call leave.
use Rattle.std.specs.Prelude.{◌≡◌, ◌≢◌, ◌⊎◌, ℕ, ◌+◌, ◌*◌, ◌^◌, ◌<◌, ◌≤◌, nat_le, Bool, true, List, Option, Some, None, Result, Vec}
use Rattle.std.specs.Prelude.{length, option_map, replicate}
use Rattle.std.specs.declared.alloc.Global.{Global}
use Rattle.std.specs.Option.{option_or}
use Rattle.zarrs_subset.specs.Boxes.{position_count}
use Rattle.zarrs_subset.specs.Regions.{Box}
use Rattle.zarrs_chunk_grid.specs.Grids.{box_at}
use Rattle.zarrs_storage.specs.Store.{StoreState, last_call}
use Rattle.zarrs_codec_chain.specs.Refusals.{IsTooLargeToDecode}
use Rattle.zarrs_data_type.specs.Cell.{Cell, held_size}
use Rattle.zarrs_data_type.specs.ArrayData.{ArrayData}
use Rattle.zarrs_data_type.specs.Cells.{cells}
use Rattle.zarrs_engine_calls.specs.declared.error.ArrayError.{ArrayError}
use Rattle.zarrs_engine_calls.specs.Layout.{Layout}
use Rattle.zarrs_engine_calls.specs.Content.{decoded_cells}
use Rattle.zarrs_engine_calls.specs.Refusals.{Refusal, codec, indices, storage, size_overflow, out_of_memory}
use Rattle.zarrs_engine_calls.specs.Refusals.{refusal_of, RefusesBy, length_refusal, key_refusal}
use Rattle.zarrs_engine_calls.specs.Refusals.{box_refusal, data_refusal, fill_refusal, read_refusal, refuse_if}
use Rattle.zarrs_engine_calls.specs.ArgumentRefusals.{size_refusal}
use Rattle.zarrs_engine_calls.specs.Changes.{IsValueOf, Makes}
use Rattle.zarrs_engine_calls.specs.StateRefusals.{RefusesErasure}
use Rattle.zarrs_engine_layout.specs.Answers.{Answers}

-- E8: so many fill values take more bytes than a `usize` counts
abbrev pub fills_refusal : Layout → ℕ → Option Refusal
fills_refusal layout count = refuse_if (nat_le (2 ^ 64) (count * held_size layout.kind layout.fill)) size_overflow

-- E8: a box of this shape is too large, or a fill value for each of its positions
abbrev pub filled_refusal : Layout → List ℕ → Option Refusal
filled_refusal layout shape = option_or (size_refusal layout shape) (fill_refusal layout shape)

-- the refusal names these indices, or out of memory
abbrev pub RefusesIndices : List ℕ → ArrayError → Type 0
RefusesIndices index e = RefusesBy (Some (indices index)) (refusal_of e)

-- the bytes of a chunk are not returned: an index list of another length, or a key that the store refuses to read
abbrev pub RefusesValue : Layout → List ℕ → StoreState → Refusal → Type 0
RefusesValue layout index state = RefusesBy (option_or (length_refusal layout index) (key_refusal layout index state))

-- the chunk has a box, its bytes leave out cells, and a chunk of fill is too large
pub record LeaveOutCells (layout : Layout) (index encoded : List ℕ) : Type 0 where
  pub boxed : box_refusal layout index ≡ None
  pub left_out : layout.chain.leaves_out (box_at layout.grid index).shape encoded ≡ true
  pub large : fill_refusal layout (box_at layout.grid index).shape ≡ Some size_overflow

-- the bytes of a chunk are not decoded: as a read of them is refused, or they leave out cells
abbrev pub RefusesBytes : Layout → (index encoded : List ℕ) → Refusal → Type 0
RefusesBytes layout index encoded r =
    RefusesBy (read_refusal layout true index (Some encoded)) r ⊎ ((r ≡ size_overflow) × LeaveOutCells layout index encoded)

-- A part of a chunk of this box is not decoded: the source of its bytes refuses (E7), they do not decode (E4), or something
-- that is decoded whole for the part is too large (E8). Out of memory may come at any time.
abbrev pub RefusesPartBytes : Layout → (box part : Box) (encoded : List ℕ) (refuses : Bool) → Refusal → Type 0
RefusesPartBytes layout box part encoded refuses storage = refuses ≡ true
RefusesPartBytes layout box part encoded refuses codec = decoded_cells layout box encoded ≡ None
RefusesPartBytes layout box part encoded refuses size_overflow = IsTooLargeToDecode layout.chain layout.kind layout.fill box.shape part encoded
RefusesPartBytes layout box part encoded refuses out_of_memory = Unit {0}
RefusesPartBytes layout box part encoded refuses _ = ⊥

-- the data is the cells of a chunk of this box, and this is what is to be present at its key
pub record HasValue (layout : Layout) (keep : Bool) (box : Box) (held : ArrayData) (value : Option (List ℕ)) : Type 0 where
  pub chunk : List Cell
  pub is_chunk : cells layout.kind held ≡ Some chunk
  pub count : length chunk ≡ position_count box.shape
  pub is_value : IsValueOf layout keep box chunk value

-- this is so made of the cells of such a chunk, or what comes `first` refuses it, or what they decide
abbrev pub MakesValue : Layout → (keep : Bool) → (first : Option Refusal) → Box → ArrayData → Result (Option (Vec ℕ Global)) ArrayError → Type 0
MakesValue layout keep first box held =
    Answers (option_or first (data_refusal layout keep box.shape (cells layout.kind held)))
    (λ value. HasValue layout keep box held (option_map (λ v. v.items) value))

-- the data is so many fill values
abbrev pub IsFill : Layout → ℕ → ArrayData → Type 0
IsFill layout count held = cells layout.kind held ≡ Some (replicate count layout.fill)

-- One key was not written, for this cause: no value changed, and at most one failure was counted, none if no call was left; `made`
-- says what calls were made.
pub record LeavesValues (made : ℕ → ℕ → StoreState → StoreState → Type 0) (why : ℕ → StoreState → Type 0) (old new : StoreState) : Type 0 where
  pub failed : ℕ
  pub one : failed ≤ 1
  pub counted : 0 < failed → new.calls ≢ last_call + 1
  pub values : new.values ≡ old.values
  pub makes : made 0 failed old new
  pub cause : why failed new

-- a writing call of a whole value was refused, or out of memory: as `LeavesValues` says
abbrev pub RefusesPut : Refusal → StoreState → StoreState → Type 0
RefusesPut r old new = LeavesValues Makes (λ failed state. RefusesErasure failed state r) old new
