-- What a change of the array's shape cuts away.
use Rattle.std.specs.Prelude.{◌≡◌, ℕ, ◌+◌, ◌-◌, ◌&&◌, not, Bool, true, false, List, Option, Some, None, Contains, if◌then◌else◌, slice_index, slice_set}
use Rattle.std.specs.List.{filter}
use Rattle.zarrs_subset.specs.Regions.{Box, box_at_origin, in_box, positions}
use Rattle.zarrs_chunk_grid.specs.Grids.{Grid, box_at, has_box, index_at, is_covered}
use Rattle.zarrs_storage.specs.Store.{StoreState}
use Rattle.zarrs_data_type.specs.Cell.{Cell}
use Rattle.zarrs_engine_calls.specs.ChunkBoxes.{last_of}
use Rattle.zarrs_engine_calls.specs.Layout.{Layout}
use Rattle.zarrs_engine_calls.specs.Content.{value_at, content}
use Rattle.zarrs_engine_calls.specs.Changes.{ChangesKeysOf, HoldsValue}

-- the position is below the shape: along each dimension
abbrev pub is_below : List ℕ → List ℕ → Bool
is_below shape position = in_box (box_at_origin shape) position

-- the positions of the box that are not below the shape along dimension k
abbrev pub beyond_box : Box → List ℕ → ℕ → Box
beyond_box box shape k = record {
  start = slice_set box.start k (slice_index shape k);
  shape = slice_set box.shape k (slice_index box.start k + slice_index box.shape k - slice_index shape k);
}

-- the chunk has a position that is not below the shape: its last one is not
abbrev pub is_cut : Grid → List ℕ → List ℕ → Bool
is_cut grid shape index = has_box grid index && not (is_below shape (last_of (box_at grid index)))

-- the chunk has a position that is below the shape: its first one is
abbrev pub keeps_some : Grid → List ℕ → List ℕ → Bool
keeps_some grid shape index = is_below shape (box_at grid index).start

-- the chunks of an array of shape `old` that are cut if its shape becomes `new`, in row-major order
abbrev pub cut_chunks : Grid → List ℕ → List ℕ → List (List ℕ)
cut_chunks grid old new = filter (is_cut grid new) (positions (box_at_origin (grid.counts old)))

-- the position lies in a chunk of an array of shape `old`, and not below `new`
abbrev pub is_cut_away : Grid → List ℕ → List ℕ → List ℕ → Bool
is_cut_away grid old new position = is_covered grid position && is_below (grid.counts old) (index_at grid position) && not (is_below new position)

-- the array as a function after its shape was `old` and became `new`: fill where it is cut away
abbrev pub resized : Layout → List ℕ → List ℕ → (List ℕ → Option Cell) → List ℕ → Option Cell
resized layout old new f position = if is_cut_away layout.grid old new position then Some layout.fill else f position

-- these chunks were cut to the shape: what they had past it is fill; one of which nothing is below the shape is gone
pub record Cuts (layout : Layout) (keep : Bool) (shape : List ℕ) (indices : List (List ℕ)) (old new : StoreState) : Type 0 where
  pub inside : (position : List ℕ)
      → is_covered layout.grid position ≡ true → Contains indices (index_at layout.grid position) → is_below shape position ≡ false
      → content layout (value_at new) position ≡ Some layout.fill
  pub outside : (position : List ℕ)
      → (is_covered layout.grid position ≡ true → Contains indices (index_at layout.grid position) → is_below shape position ≡ false → ⊥)
      → content layout (value_at new) position ≡ content layout (value_at old) position
  pub keys : ChangesKeysOf layout indices old new
  pub boxed : (index : List ℕ) → Contains indices index → has_box layout.grid index ≡ true
  -- a chunk of which nothing is below the shape is gone; another one holds what its cells are encoded to
  pub gone : (index : List ℕ) → Contains indices index → keeps_some layout.grid shape index ≡ false → value_at new (layout.key index) ≡ None
  pub held : (index : List ℕ) → Contains indices index → keeps_some layout.grid shape index ≡ true → HoldsValue layout keep index new
