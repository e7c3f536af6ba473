use Rattle.std.proofs.Common.{◌≡◌, ◌+◌, ◌&&◌, Bool, List, [], ◌∷◌, ◌++◌, take, drop, sym, ◌∙◌, ap, subst, arith}
use Rattle.std.proofs.lemmas.List.{take_all, take_more}
use Rattle.zarrs_storage.proofs.ValuesLemmas.{rules_on}
use Rattle.zarrs_codec_chain.specs.Options.{encodes_partially, stores_empty_chunks}
use Rattle.zarrs_engine_calls.specs.Layout.{Layout}
use Rattle.zarrs_engine_calls.specs.Reach.{MayAskCall, MayAskCalls}
use Rattle.zarrs_engine_calls.specs.declared.call.Call.{Call}
use Rattle.zarrs_engine.proofs.Cuts.{drop_first, others_then}
use Rattle.zarrs_engine_calls.specs.Patches.{PatchRun}
use Rattle.zarrs_engine_calls.specs.Step.{Run}
use Rattle.zarrs_engine_calls.proofs.Steps.{run_keeps, run_decodes}
use Rattle.zarrs_engine_calls.proofs.Patched.{patched_all_one}
use Rattle.zarrs_engine_calls.proofs.Runs.{run_push}
use Rattle.zarrs_engine.specs.Outcomes.{StepsAs}
use Rattle.zarrs_engine.proofs.PatchedRuns.{patch_asked, patch_push, patch_reach}
use Rattle.zarrs_engine.specs.Engine.{layout_of, state_of}
use Rattle.zarrs_engine.proofs.engine.calls.replay.Goals as goal

pub answer-reply-requires : goal.answer-reply-requires
answer-reply-requires g c =
    let i = c.loop-call.invariant in
    let old = state_of g.S.ReadableStorageTraits.state c.args.engine.now in
    let mid = state_of g.S.ReadableStorageTraits.state c.loop-call.engine in
    let call = c.call-item.result in
    let rest = drop_first c.args.calls.now c.loop-call.call-index call c.loop-call-test.true c.call-item.is in
    let asked = (subst (λ (calls : List Call). MayAskCalls (layout_of c.args.engine.now) calls mid) rest i.ask).0 in
    subst (λ (layout : Layout). MayAskCall layout call mid) (sym i.layout) asked

pub loop-call-preserved : goal.loop-call-preserved
loop-call-preserved g c =
    let i = c.loop-call.invariant in
    let s = c.answer-reply.ensures in
    let p = c.push_reserved.ensures in
    let keep = stores_empty_chunks c.args.options.now in
    let asked = encodes_partially c.args.options.now in
    let calls = c.args.calls.now in
    let n = c.loop-call.call-index in
    let layout = layout_of c.args.engine.now in
    let old = state_of g.S.ReadableStorageTraits.state c.args.engine.now in
    let mid = state_of g.S.ReadableStorageTraits.state c.loop-call.engine in
    let new = state_of g.S.ReadableStorageTraits.state c.answer-reply.new.self in
    let call = c.call-item.result in
    let more : take (n + 1) calls ≡ take n calls ++ call ∷ [] = take_more calls n call c.loop-call-test.true ∙ ap (λ x. take n calls ++ x ∷ []) (sym c.call-item.is) in
    let step = subst (λ (layout : Layout). StepsAs layout c.args.options.now call c.answer-reply.result mid new) i.layout s.step in
    let kept = patch_reach layout keep asked call c.answer-reply.result mid new step.partly in
    record {
      run = λ off.
          let still = ap (λ b. asked && (layout.chain.encodes_partly && b)) i.reach.sets_parts ∙ off in
          rw (more, p.items) (run_push layout keep _ _ call c.answer-reply.result old mid new (i.run off) (step.whole still));
      patched = rw (more, p.items) (patch_push layout keep asked _ _ call c.answer-reply.result old mid new i.patched step.partly);
      layout = s.layout ∙ i.layout;
      others = others_then _ _ _ i.others s.others;
      reach = rules_on old.store mid.store new.store i.reach kept;
      ask =
          let rest = drop_first calls n call c.loop-call-test.true c.call-item.is in
          patch_asked layout keep asked call (drop (n + 1) calls) c.answer-reply.result mid new step.partly (subst (λ (calls : List Call). MayAskCalls layout calls mid) rest i.ask);
      count = omega arith;
      room = omega arith;
    }

pub returns : goal.returns
returns g c =
    let i = c.loop-call.invariant in
    let layout = layout_of c.args.engine.now in
    let lawful = c.args.engine.now.layout.lawful in
    let keep = stores_empty_chunks c.args.options.now in
    let asked = encodes_partially c.args.options.now in
    let old = state_of g.S.ReadableStorageTraits.state c.args.engine.now in
    let new = state_of g.S.ReadableStorageTraits.state c.loop-call.engine in
    let calls = c.args.calls.now in
    let replies = c.loop-call.replies.items in
    let made = take c.loop-call.call-index calls in
    let all : made ≡ calls = take_all c.loop-call.call-index calls c.loop-call-test.false in
    record {
      run = record {
        patched = subst (λ (made : List Call). PatchRun layout keep asked made replies old new) all i.patched;
        one_function = patched_all_one layout lawful keep asked calls c.loop-call.call-index replies old new c.loop-call-test.false i.patched;
        run = λ whole. subst (λ (made : List Call). Run layout keep made replies old new) all (i.run whole);
      };
      untouched = tt;
      layout = i.layout;
      others = i.others;
      reach = i.reach;
      bytes = λ whole. record {
        decodes = run_decodes layout lawful keep made replies old new (i.run whole);
        canonical = λ off canon. run_keeps layout lawful made replies old new (subst (λ (keep : Bool). Run layout keep made replies old new) off (i.run whole)) canon;
      };
    }
