use Rattle.std.proofs.Common.{◌≡◌, ◌∙◌, ap}
use Rattle.zarrs_storage.specs.Store.{size_at}
use Rattle.zarrs_engine_calls.specs.Content.{value_at}
use Rattle.zarrs_engine_calls.specs.Layout.{Layout}
use Rattle.zarrs_engine.specs.Engine.{layout_of}
use Rattle.zarrs_engine.proofs.PartialDecoders.{present_if}
use Rattle.zarrs_engine.proofs.partial_decoder.ChunkPartialDecoder.exists.Goals as goal

pub returns-clause-present : goal.returns-clause-present
returns-clause-present g c =
    let engine = c.args.self.now.engine.now in
    let layout = layout_of engine in
    let index = c.args.self.now.chunk_indices.items in
    let state = g.S.ReadableStorageTraits.state in
    let key_is : c.in_ok-key.key ≡ layout.key index =
    c.in_ok-key.ensures.key ∙ ap (λ (l : Layout). l.key c.deref.result.now) c.layout.ensures.layout ∙ ap layout.key c.deref.ensures.value in
    let size_is = c.in_ok-size.ensures.value ∙ ap (λ s. size_at (state s).values c.in_ok-key.key) c.storage.ensures ∙ ap (size_at (state engine.storage).values) key_is in
    present_if (value_at (state engine.storage) (layout.key index)) c.in_ok-size.size c.is_some.result size_is c.is_some.ensures
