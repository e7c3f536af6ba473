use Rattle.std.proofs.Common.{subst, sym, refl}
use Rattle.std.proofs.lemmas.Result.{err_from_is_err_and}
use Rattle.zarrs_engine_calls.specs.Refusals.{Refusal}
use Rattle.zarrs_engine_calls.specs.Step.{RefusesEraseChunk}
use Rattle.zarrs_engine_calls.proofs.Contents.{index_list}
use Rattle.zarrs_engine_calls.proofs.RefusalLemmas.{storage_said}
use Rattle.zarrs.specs.Arrays.{layout_of_array}
use Rattle.zarrs.proofs.array.Array.erase_encoded.Goals as goal

pub erase_chunk-requires : goal.erase_chunk-requires
erase_chunk-requires g c = (index_list (layout_of_array c.args.self.now) c.args.self.now.engine.layout.lawful c.args.chunk_indices.now c.requires).long

pub returns-in_err-erase_chunk : goal.returns-in_err-erase_chunk
returns-in_err-erase_chunk g c =
    let layout = layout_of_array c.args.self.now in
    let old = g.TStorage.ReadableStorageTraits.state c.args.self.now.engine.storage in
    let new = g.TStorage.ReadableStorageTraits.state c.erase_chunk.new.self.storage in
    let e = c.in_err-erase_chunk.field-0.0 in
    let why = subst (λ (r : Refusal). RefusesEraseChunk layout c.args.chunk_indices.now r old new) (sym (storage_said e)) c.in_err-erase_chunk.ensures.refused in
    let p = err_from_is_err_and c.from_residual.result c.from_residual.ensures.1 in
    rw (p.1, p.2) (record {
      done = tt;
      refused = why;
      kept = record { layout_kept = c.erase_chunk.ensures.layout_kept; metadata = refl; codec_options = refl; codec_specific_options = refl; metadata_options = refl };
    })
