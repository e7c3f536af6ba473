use Rattle.zarrs_chunk_grid.proofs.Chunks.{box_is_there}
use Rattle.zarrs.specs.Arrays.{layout_of_array}
use Rattle.cases_calls.proofs.Decodes.{held_decodes}
use Rattle.cases_calls.proofs.encoded.held_bytes.Goals as goal

pub retrieve_encoded_chunk-requires-clause-dimensions : goal.retrieve_encoded_chunk-requires-clause-dimensions
retrieve_encoded_chunk-requires-clause-dimensions c =
    (box_is_there (layout_of_array c.args.array.now).grid c.args.indices.now c.in_ok-_cells.ensures.cells.1.has_box).long

pub returns-clause-decodes : goal.returns-clause-decodes
returns-clause-decodes c =
    let read = c.in_ok-_cells.ensures.cells in
    held_decodes (layout_of_array c.args.array.now) c.an_array_is_its_metadata.ensures.lawful c.args.indices.now read.0 _ read.1 (λ bytes. bytes.items) c.in_ok-encoded.encoded c.in_ok-encoded.ensures.answer
