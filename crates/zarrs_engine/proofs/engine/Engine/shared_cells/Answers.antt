use Rattle.std.proofs.Common.{sym, ◌∙◌}
use Rattle.std.proofs.lemmas.Bool.{false≢true}
use Rattle.zarrs_subset.specs.Regions.{box_of}
use Rattle.zarrs_chunk_grid.specs.Grids.{box_at}
use Rattle.zarrs_chunk_grid.proofs.Chunks.{box_long}
use Rattle.zarrs_engine_layout.proofs.OneChunk.{covers_lies}
use Rattle.zarrs_engine.specs.Engine.{layout_of}
use Rattle.zarrs_engine.proofs.PartWrites.{lies_covers}
use Rattle.zarrs_engine.proofs.engine.Engine.shared_cells.Goals as goal

pub shared_chunk-requires-clause-covers : goal.shared_chunk-requires-clause-covers
shared_chunk-requires-clause-covers g c = c.covers_chunk.ensures.0 c.if-covers_chunk.true

pub shared_chunk-requires-clause-ask : goal.shared_chunk-requires-clause-ask
shared_chunk-requires-clause-ask g c =
    let layout = layout_of c.args.self.now in
    let chunk = box_at layout.grid c.args.chunk_indices.now in
    c.requires.ask.whole (lies_covers chunk (box_of c.args.region.now) (box_long layout.grid c.args.chunk_indices.now) c.args.region.now.same_length (c.covers_chunk.ensures.0 c.if-covers_chunk.true))

pub shared_part-requires-clause-part : goal.shared_part-requires-clause-part
shared_part-requires-clause-part g c = λ covers.
    let layout = layout_of c.args.self.now in
    let lies = covers_lies layout.grid c.args.self.now.layout.lawful.grid c.args.chunk_indices.now c.requires.boxed (box_of c.args.region.now) c.args.region.now.same_length c.requires.dimensions covers in
    false≢true (sym c.if-covers_chunk.false ∙ c.covers_chunk.ensures.1 lies)

pub shared_part-requires-clause-ask : goal.shared_part-requires-clause-ask
shared_part-requires-clause-ask g c = c.requires.ask.part
