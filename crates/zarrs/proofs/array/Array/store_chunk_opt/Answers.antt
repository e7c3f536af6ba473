use Rattle.std.proofs.Common.{None, refl}
use Rattle.zarrs_data_type.specs.ArrayData.{data_of}
use Rattle.zarrs_codec.specs.Options.{stores_empty_chunks}
use Rattle.zarrs_engine_calls.specs.Canon.{KeepsCanon}
use Rattle.zarrs_engine_calls.specs.Step.{StoresChunk, RefusesStoreChunk}
use Rattle.zarrs.specs.Arrays.{layout_of_array}
use Rattle.zarrs.proofs.Typed.{written_as}
use Rattle.zarrs.proofs.array.Array.store_chunk_opt.Goals as goal

pub returns : goal.returns
returns g c =
    let array = c.args.self.now in
    let layout = layout_of_array array in
    let keep = stores_empty_chunks c.args.options.now in
    let index = c.args.chunk_indices.now in
    let held = data_of c.in_ok-chunk_data.chunk_data in
    let stored = c.store_chunk.ensures in
    written_as g.D.IntoArrayBytes.serves (g.D.IntoArrayBytes.gives c.args.chunk_data) None g.TStorage.ReadableStorageTraits.state
    (λ d. StoresChunk layout keep index d) (λ d. RefusesStoreChunk layout keep index d) (KeepsCanon layout keep) array _ c.store_chunk.result held
    (rw c.data_type.ensures at c.in_ok-chunk_data.ensures.given) (rw c.data_type.ensures at c.in_ok-chunk_data.ensures.served) stored.done stored.refused stored.canonical
    (record { layout_kept = stored.layout_kept; metadata = refl; codec_options = refl; codec_specific_options = refl; metadata_options = refl })
