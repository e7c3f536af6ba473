use Rattle.std.proofs.Common.{true, rules}
use Rattle.zarrs_chunk_grid.proofs.Chunks.{box_is_there}
use Rattle.std.proofs.lemmas.Bool.{false≢true}
use Rattle.zarrs_engine.specs.Engine.{layout_of}
use Rattle.zarrs_engine_calls.specs.Refusals.{refusal_of}
use Rattle.zarrs_engine_layout.proofs.Chunks.{read_refused_first}
use Rattle.zarrs_engine.proofs.engine.Engine.chunk_cells.Goals as goal

pub returns-in_err-stored : goal.returns-in_err-stored
returns-in_err-stored g c =
    let layout = layout_of c.args.self.now in
    let state = g.S.ReadableStorageTraits.state c.args.self.now.storage in
    let index = c.args.chunk.now.indices.now in
    let why = read_refused_first layout true index state (refusal_of c.in_err-stored.field-0.0) c.in_err-stored.ensures.refused in
    search (rules, why)

pub stored_at-requires-clause-long : goal.stored_at-requires-clause-long
stored_at-requires-clause-long g c = (box_is_there (layout_of c.args.self.now).grid c.args.chunk.now.indices.now c.requires.chunk.boxed).long

pub cells_of-requires-clause-long : goal.cells_of-requires-clause-long
cells_of-requires-clause-long g c = (box_is_there (layout_of c.args.self.now).grid c.args.chunk.now.indices.now c.requires.chunk.boxed).long

pub returns : goal.returns
returns g c = record {
  cells = c.cells_of.ensures.cells;
  refused = c.cells_of.ensures.refused;
  refusing = λ said. absurd (false≢true (c.in_ok-stored.ensures.refusing said));
}
