-- What calls do to the store and to the content.
use Rattle.std.specs.Prelude.{◌≡◌, ◌≢◌, ◌⊎◌, ℕ, ◌+◌, Bool, true, false, List, [], ◌∷◌, length, take, Option, Some, None, Contains}
use Rattle.zarrs_subset.specs.Regions.{Box, Holds, cell_in}
use Rattle.zarrs_chunk_grid.specs.Grids.{box_at, index_at, is_covered, has_box}
use Rattle.zarrs_keys.specs.Keys.{IsIndexList}
use Rattle.zarrs_storage.specs.Store.{StoreState, KeepsReach, KeepsRules}
use Rattle.zarrs_data_type.specs.Cell.{Cell}
use Rattle.zarrs_data_type.specs.ArrayData.{ArrayData}
use Rattle.zarrs_data_type.specs.Cells.{cells}
use Rattle.zarrs_engine_calls.specs.Layout.{Layout}
use Rattle.zarrs_engine_calls.specs.Content.{value_at, content, Reads}
use Rattle.zarrs_engine_calls.specs.Refusals.{is_left_out, encoded_cells}

-- this many writing calls were accepted and this many failed, each of a whole value, and what may be asked stays
pub record Makes (accepted failed : ℕ) (old new : StoreState) : Type 0 where
  pub calls : new.calls ≡ old.calls + accepted + failed
  pub failures : new.failures ≡ old.failures + failed
  pub reach : KeepsReach old new

-- so many parts were written before, and so many after: each of these chunks that takes its part by itself counts for one, or for none
abbrev pub CountsParts : (List ℕ → Type 0) → List (List ℕ) → ℕ → ℕ → Type 0
CountsParts itself [] before after = after ≡ before
CountsParts itself (index ∷ indices) before after =
    CountsParts itself indices before after ⊎ (itself index × CountsParts itself indices (before + 1) after)

-- this many calls of each kind for the first of these chunks, one for each: of a part at most where the chunk takes its part by itself
pub record MakesParts (itself : List ℕ → Type 0) (chunks : List (List ℕ)) (accepted failed : ℕ) (old new : StoreState) : Type 0 where
  pub calls : new.calls ≡ old.calls + accepted + failed
  pub failures : new.failures ≡ old.failures + failed
  pub rules : KeepsRules old new
  pub parts : CountsParts itself (take (accepted + failed) chunks) old.parts new.parts

-- what is present at the key of a chunk of this box with these cells: nothing if it is left out, else their bytes
abbrev pub IsValueOf : Layout → Bool → Box → List Cell → Option (List ℕ) → Type 0
IsValueOf layout keep box cells None = is_left_out layout keep cells ≡ true
IsValueOf layout keep box cells (Some encoded) = (is_left_out layout keep cells ≡ false) × (encoded_cells layout keep box.shape cells ≡ Some encoded)

-- no other keys than those of these indices changed
abbrev pub ChangesKeysOf : Layout → List (List ℕ) → StoreState → StoreState → Type 0
ChangesKeysOf layout indices old new =
    (key : List ℕ) → ((index : List ℕ) → Contains indices index → key ≢ layout.key index) → value_at new key ≡ value_at old key

-- the chunks of these indices took their part of the cells of a region
pub record Updates (layout : Layout) (region : Box) (cells : List Cell) (indices : List (List ℕ)) (old new : StoreState) : Type 0 where
  -- the region's positions in these chunks have the data's cells, and every other position has what it had
  pub inside : (position : List ℕ) → Holds region position → Contains indices (index_at layout.grid position)
      → content layout (value_at new) position ≡ cell_in region cells position
  pub outside : (position : List ℕ) → (Holds region position → Contains indices (index_at layout.grid position) → ⊥)
      → content layout (value_at new) position ≡ content layout (value_at old) position
  pub keys : ChangesKeysOf layout indices old new
  pub boxed : (index : List ℕ) → Contains indices index → has_box layout.grid index ≡ true

-- the key of this chunk holds the bytes of its cells, or is absent if it is left out
abbrev pub HoldsValue : Layout → Bool → List ℕ → StoreState → Type 0
HoldsValue layout keep index state =
    (chunk : List Cell) × Reads (content layout (value_at state)) (box_at layout.grid index) chunk
    × IsValueOf layout keep (box_at layout.grid index) chunk (value_at state (layout.key index))

-- so does that of each of these chunks
abbrev pub HoldValues : Layout → Bool → List (List ℕ) → StoreState → Type 0
HoldValues layout keep indices state = (index : List ℕ) → Contains indices index → HoldsValue layout keep index state

-- these chunks took their part of the cells, and their keys hold what they are encoded to
pub record Stores (layout : Layout) (keep : Bool) (region : Box) (cells : List Cell) (indices : List (List ℕ)) (old new : StoreState) : Type 0 where
  pub updates : Updates layout region cells indices old new
  pub held : HoldValues layout keep indices new

-- the chunks of these indices are gone
pub record Erases (layout : Layout) (indices : List (List ℕ)) (old new : StoreState) : Type 0 where
  pub inside : (position : List ℕ) → is_covered layout.grid position ≡ true → Contains indices (index_at layout.grid position)
      → content layout (value_at new) position ≡ Some layout.fill
  pub outside : (position : List ℕ)
      → (is_covered layout.grid position ≡ true → Contains indices (index_at layout.grid position) → ⊥)
      → content layout (value_at new) position ≡ content layout (value_at old) position
  pub keys : ChangesKeysOf layout indices old new
  pub long : (index : List ℕ) → Contains indices index → IsIndexList layout.grid.dimensions index
  pub absent : (index : List ℕ) → Contains indices index → value_at new (layout.key index) ≡ None

-- the data holds the cells of a chunk, which has a box
pub record RetrievesChunk (layout : Layout) (index : List ℕ) (held : ArrayData) (state : StoreState) : Type 0 where
  pub has_box : has_box layout.grid index ≡ true
  pub chunk : List Cell
  pub is_chunk : cells layout.kind held ≡ Some chunk
  pub reads : Reads (content layout (value_at state)) (box_at layout.grid index) chunk

-- some bytes are present at the key of the chunk
abbrev pub IsPresent : Layout → List ℕ → StoreState → Type 0
IsPresent layout index state = (encoded : List ℕ) × (value_at state (layout.key index) ≡ Some encoded)

-- the cells of a chunk that is present, or none if it is absent
abbrev pub RetrievesIfExists : Layout → List ℕ → Option ArrayData → StoreState → Type 0
RetrievesIfExists layout index None state = (length index ≡ layout.grid.dimensions) × (value_at state (layout.key index) ≡ None)
RetrievesIfExists layout index (Some held) state = RetrievesChunk layout index held state × IsPresent layout index state

-- this value, or none, is present at the key, no other key changed, and one writing call was made; `made` says what call
pub record Puts (made : ℕ → ℕ → StoreState → StoreState → Type 0) (key : List ℕ) (value : Option (List ℕ)) (old new : StoreState) : Type 0 where
  pub held : value_at new key ≡ value
  pub others : (other : List ℕ) → other ≢ key → value_at new other ≡ value_at old other
  pub makes : made 1 0 old new

-- the same, by a call of a whole value
abbrev pub IsPut : List ℕ → Option (List ℕ) → StoreState → StoreState → Type 0
IsPut key value old new = Puts Makes key value old new
