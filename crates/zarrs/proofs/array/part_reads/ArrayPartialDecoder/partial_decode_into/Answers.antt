use Rattle.std.proofs.Common.{◌≡◌, None, rules, subst}
use Rattle.zarrs_subset.specs.Regions.{Box}
use Rattle.zarrs_data_type_region.proofs.Kept.{keeps_itself}
use Rattle.zarrs_engine_calls.specs.ArgumentRefusals.{part_refusal}
use Rattle.zarrs_engine.specs.PartialDecoders.{DecodesPartInto}
use Rattle.zarrs_engine.proofs.PartialDecoders.{part_region}
use Rattle.zarrs.specs.PartialEncoders.{layout_of_decoder, state_of_decoder, indices_of_decoder}
use Rattle.zarrs.proofs.array.part_reads.ArrayPartialDecoder.partial_decode_into.Goals as goal

pub returns-in_err-chunk_subset : goal.returns-in_err-chunk_subset
returns-in_err-chunk_subset g c =
    let decoder = c.args.self.now in
    let layout = layout_of_decoder decoder in
    let index = indices_of_decoder decoder in
    let part = g.R.ArraySubsetTraits.region c.args.chunk_subset.now in
    let kept = keeps_itself c.args.target.now in
    let covered = λ (lies : part_refusal layout index part ≡ None).
    part_region layout decoder.decoder.engine.now.layout.lawful index decoder.decoder.boxed part (g.met.R.ArraySubsetTraits.is_long c.args.chunk_subset.now) lies
    (state_of_decoder g.TStorage.ReadableStorageTraits.state decoder).shape in
    search (rules, covered, kept)

pub returns : goal.returns
returns g c =
    let decoder = c.args.self.now in
    let read = c.partial_decode_into in
    subst (λ (b : Box). DecodesPartInto (layout_of_decoder decoder) (indices_of_decoder decoder) b (state_of_decoder g.TStorage.ReadableStorageTraits.state decoder) c.args.target.now read.new.target read.result)
    c.in_ok-chunk_subset.ensures read.ensures
