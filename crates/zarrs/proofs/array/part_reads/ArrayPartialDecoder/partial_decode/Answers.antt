use Rattle.std.proofs.Common.{inl, refl, subst}
use Rattle.std.proofs.lemmas.Result.{err_from_is_err_and}
use Rattle.zarrs_subset.specs.Regions.{Box}
use Rattle.zarrs_engine_calls.specs.Refusals as refusal
use Rattle.zarrs_engine_calls.specs.Step.{RefusesRetrievePart}
use Rattle.zarrs.specs.PartialEncoders.{DecodesPart, indices_of_decoder, layout_of_decoder, store_of_decoder}
use Rattle.zarrs.proofs.array.part_reads.ArrayPartialDecoder.partial_decode.Goals as goal

pub returns-in_err-chunk_subset : goal.returns-in_err-chunk_subset
returns-in_err-chunk_subset g c =
    let layout = layout_of_decoder c.args.self.now in
    let index = indices_of_decoder c.args.self.now in
    let part = g.R.ArraySubsetTraits.region c.args.chunk_subset.now in
    let why : RefusesRetrievePart layout index part refusal.out_of_memory (store_of_decoder g.TStorage.ReadableStorageTraits.state c.args.self.now) = record { whole = λ _. inl tt; proper = λ _. inl tt } in
    let p = err_from_is_err_and c.from_residual.result c.from_residual.ensures.1 in
    rw (p.1, p.2) (record { cells = tt; refused = why; refusing = λ _ _. refl })

pub returns : goal.returns
returns g c =
    let read = c.partial_decode in
    subst (λ (b : Box). DecodesPart g.TStorage.ReadableStorageTraits.state b c.args.self.now read.result) c.in_ok-chunk_subset.ensures
    (record { cells = read.ensures.cells; refused = read.ensures.refused; refusing = read.ensures.refusing })
