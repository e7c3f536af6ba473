use Rattle.zarrs.specs.Arrays.{layout_of_array}
use Rattle.zarr_arrays.specs.Storing.{lent_to}
use Rattle.zarr_arrays.proofs.Asked.{ok_holds}
use Rattle.zarr_arrays.proofs.Stored.{compacted_loan, compacts_over}
use Rattle.zarr_arrays.proofs.calls.compact_through.Goals as goal

pub compact_chunk-requires-clause-ask : goal.compact_chunk-requires-clause-ask
compact_chunk-requires-clause-ask c = record { key = c.requires.ask.key; places = c.requires.ask.places }

pub returns : goal.returns
returns c =
    let layout = layout_of_array c.args.array.now in
    let old = lent_to c.args.array.now in
    let new = lent_to c.compact_chunk.new.self in
    let answer = c.in_ok-answer.answer in
    let done = ok_holds _ c.compact_chunk.result answer c.in_ok-answer.was c.compact_chunk.ensures.done in
    record {
      loan = compacted_loan layout c.args.indices.now old new answer done;
      compacted = compacts_over layout c.args.indices.now old new answer done;
    }
