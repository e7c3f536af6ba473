-- A chunk that is present and was read decodes.
use Rattle.std.proofs.Common.{◌≡◌, ◌∙◌, ℕ, List, Option, Some, None, sym, ap, subst, arith}
use Rattle.std.specs.Prelude.{IsSome, IfSome, option_map}
use Rattle.zarrs_subset.specs.Regions.{place_in}
use Rattle.zarrs_subset.proofs.Bytes.{place_in_below}
use Rattle.zarrs_chunk_grid.specs.Grids.{box_at}
use Rattle.zarrs_chunk_grid.proofs.Chunks.{box_long}
use Rattle.zarrs_storage.specs.Store.{StoreState}
use Rattle.zarrs_data_type.specs.ArrayData.{ArrayData}
use Rattle.zarrs_data_type.specs.Cell.{Cell}
use Rattle.zarrs_engine_calls.specs.Layout.{Layout, IsLawful}
use Rattle.zarrs_engine_calls.specs.Content.{value_at, decoded_cells, cell_at_place, chunk_cell}
use Rattle.zarrs_engine_calls.specs.Changes.{RetrievesChunk}
use Rattle.zarrs_engine_calls.proofs.Contents.{content_in_box}
use Rattle.zarrs_engine_calls.proofs.Shapes.{first_held, slice_there}

-- there is a cell at a place of what was found, so something was
some_found : (found : Option (List Cell)) (k : ℕ) (cell : Cell) → cell_at_place found k ≡ Some cell → IsSome found
some_found (Some cells) k cell at = search
some_found None k cell at = absurd (cc)

pub read_decodes : (layout : Layout) → IsLawful layout → (index encoded : List ℕ) (held : ArrayData) (state : StoreState)
    → RetrievesChunk layout index held state → value_at state (layout.key index) ≡ Some encoded
    → IsSome (decoded_cells layout (box_at layout.grid index) encoded)
read_decodes layout lawful index encoded held state read present =
    let box = box_at layout.grid index in
    let first = first_held layout.grid lawful.grid index read.has_box in
    let below = place_in_below box box.start (box_long layout.grid index) first in
    let count = read.reads.count in
    let cell = slice_there read.chunk (place_in box box.start) (omega arith) in
    let here : cell_at_place (decoded_cells layout box encoded) (place_in box box.start) ≡ Some cell.0 =
    ap (λ (t : Option (List ℕ)). chunk_cell layout t box box.start) (sym present)
    ∙ sym (content_in_box layout (value_at state) lawful index read.has_box box.start first)
    ∙ read.reads.each box.start first ∙ cell.1 in
    some_found (decoded_cells layout box encoded) (place_in box box.start) cell.0 here

-- the bytes that are stored for a chunk that was read decode, if there are some
pub held_decodes : {A : Type 0} (layout : Layout) → IsLawful layout → (index : List ℕ) (held : ArrayData) (state : StoreState)
    → RetrievesChunk layout index held state → (items : A → List ℕ) (encoded : Option A) → option_map items encoded ≡ value_at state (layout.key index)
    → IfSome encoded (λ a. IsSome (decoded_cells layout (box_at layout.grid index) (items a)))
held_decodes layout lawful index held state read items None at = tt
held_decodes layout lawful index held state read items (Some a) at = read_decodes layout lawful index (items a) held state read (sym at)

-- bytes that were found, and decode in a layout, decode in the same one
pub found_decodes : {A : Type 0} (from to : Layout) (index : List ℕ) (items : A → List ℕ) (found : Option A) (a : A) → from ≡ to → found ≡ Some a
    → IfSome found (λ b. IsSome (decoded_cells from (box_at from.grid index) (items b))) → IsSome (decoded_cells to (box_at to.grid index) (items a))
found_decodes from to index items found a same is decodes =
    let there = subst (λ o. IfSome o (λ b. IsSome (decoded_cells from (box_at from.grid index) (items b)))) is decodes in
    subst (λ (layout : Layout). IsSome (decoded_cells layout (box_at layout.grid index) (items a))) same there
