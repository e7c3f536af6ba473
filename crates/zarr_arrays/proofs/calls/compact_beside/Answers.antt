use Rattle.std.proofs.Common.{ap, arith, rules}
use Rattle.std.proofs.lemmas.Grind.{common_steps}
use Rattle.zarrs.specs.Arrays.{layout_of_array}
use Rattle.zarrs_directory.specs.Directory.{cache_state}
use Rattle.zarr_arrays.specs.Storing.{lent_to}
use Rattle.zarr_arrays.proofs.Asked.{chunk_at}
use Rattle.zarr_arrays.proofs.Stored.{compacted_there}
use Rattle.zarr_arrays.proofs.calls.compact_beside.Goals as goal

pub compact_through-requires-clause-ask : goal.compact_through-requires-clause-ask
compact_through-requires-clause-ask c =
    chunk_at (layout_of_array c.in_ok-array.array) (layout_of_array c.args.array.now) _ _ c.args.indices.now c.in_ok-array.ensures.copied.layout
    (ap (λ s. cache_state s.now) c.in_ok-array.ensures.lent) c.requires.ask

pub returns : goal.returns
returns c =
    compacted_there (layout_of_array c.args.array.now) (layout_of_array c.in_ok-array.array) c.args.indices.now c.in_ok-answer.answer
    (cache_state (lent_to c.in_ok-array.array).now) (cache_state (lent_to c.compact_through.new.array).now) (cache_state c.args.cache.now) _
    c.in_ok-array.ensures.copied.layout (ap (λ s. cache_state s.now) c.in_ok-array.ensures.lent) (first_of (cc, search rules, grind (arith, common_steps)))
    c.in_ok-answer.ensures.compacted
