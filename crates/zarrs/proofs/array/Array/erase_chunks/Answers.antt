use Rattle.std.proofs.Common.{OnOk, IfErr, refl, subst}
use Rattle.zarrs_subset.specs.Regions.{Box}
use Rattle.zarrs_engine_calls.specs.Refusals.{refusal_of_storage}
use Rattle.zarrs_engine_calls.specs.Step.{ErasesChunks, RefusesEraseChunks}
use Rattle.zarrs.specs.Arrays.{layout_of_array}
use Rattle.zarrs.proofs.Short.{erase_short}
use Rattle.zarrs.proofs.array.Array.erase_chunks.Goals as goal

pub returns : goal.returns
returns g c =
    let layout = layout_of_array c.args.self.now in
    let old = g.TStorage.ReadableStorageTraits.state c.args.self.now.engine.storage in
    let new = g.TStorage.ReadableStorageTraits.state c.erase_chunks.new.self.storage in
    let erased = c.erase_chunks in
    record {
      done = subst (λ (b : Box). OnOk erased.result (ErasesChunks layout b old new)) c.in-Ok.ensures erased.ensures.done;
      refused = subst (λ (b : Box). IfErr erased.result (λ e. RefusesEraseChunks layout b (refusal_of_storage e) old new)) c.in-Ok.ensures erased.ensures.refused;
      canonical = erased.ensures.canonical;
      kept = record { layout_kept = erased.ensures.layout_kept; metadata = refl; codec_options = refl; codec_specific_options = refl; metadata_options = refl };
    }

pub returns-in_default : goal.returns-in_default
returns-in_default g c = record {
  done = tt;
  refused = erase_short (layout_of_array c.args.self.now) (g.R.ArraySubsetTraits.region c.args.chunks.now) (g.TStorage.ReadableStorageTraits.state c.args.self.now.engine.storage);
  canonical = λ off canonical. canonical;
  kept = record { layout_kept = refl; metadata = refl; codec_options = refl; codec_specific_options = refl; metadata_options = refl };
}
