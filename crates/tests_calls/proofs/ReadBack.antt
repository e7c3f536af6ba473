-- A chunk that was stored reads back as its cells.
use Rattle.std.proofs.Common.{◌≡◌, ◌∙◌, ℕ, Bool, List, [], ◌∷◌, Some, if◌then◌else◌, refl, sym, ap, subst}
use Rattle.zarrs_subset.specs.Regions.{cell_in}
use Rattle.zarrs_chunk_grid.specs.Grids.{box_at}
use Rattle.zarrs_chunk_grid.proofs.Chunks.{box_long}
use Rattle.zarrs_storage.specs.Store.{StoreState}
use Rattle.zarrs_data_type.specs.ArrayData.{ArrayData}
use Rattle.zarrs_data_type.specs.Cells.{cells}
use Rattle.zarrs_engine_calls.specs.Layout.{Layout}
use Rattle.zarrs_engine_calls.specs.Content.{value_at, content, Reads}
use Rattle.zarrs_engine_calls.specs.Changes.{RetrievesChunk}
use Rattle.zarrs_engine_calls.specs.Fronts.{StoresAll}
use Rattle.zarrs_engine_calls.proofs.LawProofs.{reads_one}

-- data that a chunk was stored from and data that it is read as have the same cells
pub read_back : (layout : Layout) (keep : Bool) (index : List ℕ) (held got : ArrayData) (old new : StoreState)
    → StoresAll layout keep (box_at layout.grid index) held (index ∷ []) old new → RetrievesChunk layout index got new
    → cells layout.kind got ≡ cells layout.kind held
read_back layout keep index held got old new stored read =
    let box = box_at layout.grid index in
    let now = content layout (value_at new) in
    let before = content layout (value_at old) in
    let given = stored.takes.given in
    let reads : Reads now box given = record {
      count = stored.takes.count;
      each = λ position inside. subst (λ b. now position ≡ (if b then cell_in box given position else before position)) inside (stored.updates position);
    } in
    let same = reads_one now now box read.chunk given (box_long layout.grid index) (λ _ _. refl) read.reads reads in
    read.is_chunk ∙ ap Some same ∙ sym stored.takes.are_cells
