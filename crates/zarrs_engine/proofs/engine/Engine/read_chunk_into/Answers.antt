use Rattle.std.proofs.lemmas.Bool.{false≢true}
use Rattle.zarrs_subset.specs.Regions.{box_of}
use Rattle.zarrs_chunk_grid.specs.Grids.{box_at}
use Rattle.zarrs_chunk_grid.proofs.Chunks.{box_long}
use Rattle.std.proofs.Common.{sym, ◌∙◌}
use Rattle.zarrs_engine_layout.proofs.OneChunk.{covers_lies}
use Rattle.zarrs_engine.specs.Engine.{layout_of}
use Rattle.zarrs_engine.proofs.PartWrites.{lies_covers}
use Rattle.zarrs_engine.proofs.engine.Engine.read_chunk_into.Goals as goal

pub read_whole_into-requires-clause-covers : goal.read_whole_into-requires-clause-covers
read_whole_into-requires-clause-covers g c = c.covers_chunk.ensures.0 c.if-covers_chunk.true

pub read_whole_into-requires-clause-ask : goal.read_whole_into-requires-clause-ask
read_whole_into-requires-clause-ask g c =
    let layout = layout_of c.args.self.now in
    let chunk = box_at layout.grid c.args.chunk_indices.now in
    c.requires.ask.whole (lies_covers chunk (box_of c.args.region.now) (box_long layout.grid c.args.chunk_indices.now) c.args.region.now.same_length (c.covers_chunk.ensures.0 c.if-covers_chunk.true))

pub read_part_into-requires-clause-part : goal.read_part_into-requires-clause-part
read_part_into-requires-clause-part g c = λ covers.
    let layout = layout_of c.args.self.now in
    let lies = covers_lies layout.grid c.args.self.now.layout.lawful.grid c.args.chunk_indices.now c.requires.boxed (box_of c.args.region.now) c.args.region.now.same_length c.requires.dimensions covers in
    false≢true (sym c.if-covers_chunk.false ∙ c.covers_chunk.ensures.1 lies)

pub read_part_into-requires-clause-ask : goal.read_part_into-requires-clause-ask
read_part_into-requires-clause-ask g c = c.requires.ask.part
