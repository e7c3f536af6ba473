use Rattle.std.proofs.Common.{◌≡◌, ◌≤◌, take, drop, false, length, vec_len, vec_capacity}
use Rattle.zarrs_storage.specs.Store.{KeepsRules}
use Rattle.zarrs_codec_chain.specs.Options.{encodes_partially, stores_empty_chunks}
use Rattle.zarrs_engine_calls.specs.Step.{Run}
use Rattle.zarrs_engine_calls.specs.Patches.{PatchRun, writes_parts}
use Rattle.zarrs_engine_calls.specs.Reach.{MayAskCalls}
use Rattle.zarrs_engine.specs.Engine.{layout_of, store_of, state_of, KeepsOthers}
use Rattle.zarrs_engine.proofs.engine.calls.replay.Given as goal

abbrev pub invariant-loop-call : goal.invariant-loop-call
invariant-loop-call g l = record {
  run : writes_parts (encodes_partially l.options) (layout_of l.fn.engine) (store_of g.S.ReadableStorageTraits.state l.fn.engine) ≡ false → Run (layout_of l.fn.engine) (stores_empty_chunks l.options) (take l.call-index l.calls) l.replies.items (state_of g.S.ReadableStorageTraits.state l.fn.engine) (state_of g.S.ReadableStorageTraits.state l.engine);
  patched : PatchRun (layout_of l.fn.engine) (stores_empty_chunks l.options) (encodes_partially l.options) (take l.call-index l.calls) l.replies.items (state_of g.S.ReadableStorageTraits.state l.fn.engine) (state_of g.S.ReadableStorageTraits.state l.engine);
  layout : layout_of l.engine ≡ layout_of l.fn.engine;
  others : KeepsOthers l.fn.engine l.engine;
  reach : KeepsRules (store_of g.S.ReadableStorageTraits.state l.fn.engine) (store_of g.S.ReadableStorageTraits.state l.engine);
  ask : MayAskCalls (layout_of l.fn.engine) (drop l.call-index l.calls) (state_of g.S.ReadableStorageTraits.state l.engine);
  count : vec_len l.replies ≡ l.call-index;
  room : length l.calls ≤ vec_capacity l.replies;
}
