use Rattle.std.proofs.Common.{refl, rules, subst}
use Rattle.std.proofs.lemmas.Result.{err_from_is_err_and}
use Rattle.std.specs.Prelude.{OnOk, IfErr}
use Rattle.zarrs_subset.specs.Regions.{Box}
use Rattle.zarrs_data_type.specs.ArrayData.{data_of}
use Rattle.zarrs_codec.specs.Options.{stores_empty_chunks}
use Rattle.zarrs_engine_calls.specs.Patches.{EncodesPart, RefusesEncodePart}
use Rattle.zarrs_engine_calls.specs.Refusals.{refusal_of}
use Rattle.zarrs.specs.Arrays.{layout_of_array}
use Rattle.zarrs.proofs.Short.{encode_short}
use Rattle.zarrs.proofs.array.Array.encode_part.Goals as goal

pub returns : goal.returns
returns g c =
    let layout = layout_of_array c.args.self.now in
    let keep = stores_empty_chunks c.args.options.now in
    let old = g.TStorage.ReadableStorageTraits.state c.args.self.now.engine.storage in
    let new = g.TStorage.ReadableStorageTraits.state c.partial_encode.new.self.storage in
    let index = c.args.chunk_indices.now in
    let held = data_of c.args.bytes.now in
    let written = c.partial_encode in
    record {
      done = subst (λ (b : Box). OnOk written.result (EncodesPart layout keep index b held old new)) c.in_ok-chunk_subset.ensures written.ensures.done;
      refused = subst (λ (b : Box). IfErr written.result (λ e. RefusesEncodePart layout keep index b held (refusal_of e) old new)) c.in_ok-chunk_subset.ensures written.ensures.refused;
      refusing = written.ensures.refusing;
      kept = record { layout_kept = written.ensures.layout_kept; metadata = refl; codec_options = refl; codec_specific_options = refl; metadata_options = refl };
    }

pub returns-in_err-chunk_subset : goal.returns-in_err-chunk_subset
returns-in_err-chunk_subset g c =
    let layout = layout_of_array c.args.self.now in
    let keep = stores_empty_chunks c.args.options.now in
    let old = g.TStorage.ReadableStorageTraits.state c.args.self.now.engine.storage in
    let why = encode_short layout keep c.args.chunk_indices.now (g.R.ArraySubsetTraits.region c.args.chunk_subset.now) (data_of c.args.bytes.now) old in
    let p = err_from_is_err_and c.from_residual.result c.from_residual.ensures.1 in
    rw (p.1, p.2) (record { done = tt; refused = why; refusing = λ _. refl; kept = search rules })
