use Rattle.std.proofs.Common.{IfErr, OnOk, subst}
use Rattle.zarrs_subset.specs.Regions.{Box, positions}
use Rattle.zarrs_engine_calls.specs.Refusals.{refusal_of}
use Rattle.zarrs_engine.specs.Encoded.{ReadsKeys, RefusesEncoded}
use Rattle.zarrs.specs.Arrays.{layout_of_array, store_of_array}
use Rattle.zarrs.proofs.array.Array.retrieve_encoded_chunks.Goals as goal

pub returns-clause-refused : goal.returns-clause-refused
returns-clause-refused g c =
    let array = c.args.self.now in
    subst (λ (b : Box). IfErr c.retrieve_encoded_chunks.result (λ e. RefusesEncoded (layout_of_array array) (positions b) (store_of_array g.TStorage.ReadableStorageTraits.state array) (refusal_of e)))
    c.in_ok-chunks.ensures c.retrieve_encoded_chunks.ensures.refused

pub returns-clause-accepted : goal.returns-clause-accepted
returns-clause-accepted g c =
    let array = c.args.self.now in
    subst (λ (b : Box). OnOk c.retrieve_encoded_chunks.result (ReadsKeys (layout_of_array array) (positions b) (store_of_array g.TStorage.ReadableStorageTraits.state array)))
    c.in_ok-chunks.ensures c.retrieve_encoded_chunks.ensures.accepted
