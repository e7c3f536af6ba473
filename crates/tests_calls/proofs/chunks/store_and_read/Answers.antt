use Rattle.std.proofs.Common.{◌∙◌, ap, subst}
use Rattle.zarrs_storage.specs.Memory.{open_state}
use Rattle.zarrs_data_type.specs.ArrayData.{data_of}
use Rattle.zarrs_data_type.specs.Cells.{cells}
use Rattle.zarrs_engine_calls.specs.Changes.{RetrievesChunk}
use Rattle.zarrs_engine_layout.specs.Layouts.{layout_meaning}
use Rattle.zarrs_engine.specs.Engine.{layout_of, store_of}
use Rattle.tests_calls.proofs.ReadBack.{read_back}
use Rattle.tests_calls.proofs.chunks.store_and_read.Goals as goal

pub returns-clause-same : goal.returns-clause-same
returns-clause-same c =
    let stored = c.in_ok-store_chunk.ensures.done.1 in
    let read = subst (λ held. RetrievesChunk (layout_meaning held) c.args.chunk_indices.now (data_of c.in_ok-read.read) (store_of open_state c.store_chunk.new.self))
    c.in_ok-store_chunk.ensures.layout_kept c.in_ok-read.ensures.cells in
    read_back (layout_of c.args.engine.now) _ _ _ _ _ _ stored read ∙ ap (cells (layout_of c.args.engine.now).kind) c.from_flen-chunk_data.ensures
