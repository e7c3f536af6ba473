use Rattle.std.proofs.Common.{List, ℕ, None, Option, Some, IfOk, option_map, sym, ap, subst, ◌∙◌}
use Rattle.std.proofs.lemmas.List.{append-nil}
use Rattle.std.proofs.lemmas.Result.{IfErr-weaker, IfOk-weaker}
use Rattle.zarrs_codec_shard.specs.ShardPatches.{PushesChange}
use Rattle.zarrs_codec_shard.proofs.Patching.{or_false, pushed}
use Rattle.zarrs_codec_shard.proofs.patch.ShardPatch.push.Goals as goal

pub returns-in-None-clause-pushed : goal.returns-in-None-clause-pushed
returns-in-None-clause-pushed c =
    let old = c.args.self.now in
    let new = c.push_entry.new.self in
    subst (λ (x : Option (List ℕ)). IfOk c.push_entry.result (λ done. PushesChange old new x)) (sym (ap (option_map (λ bytes. bytes.items)) c.in-None.is))
    (IfOk-weaker c.push_entry.result _ _
    (λ done entry.
    pushed old new None c.push_entry.ensures.base c.push_entry.ensures.index (ap (λ v. v.items) c.push_entry.ensures.encoded ∙ sym (append-nil old.encoded.items))
    (λ count stored parts changes made lt is. entry) (c.push_entry.ensures.any ∙ or_false old.any))
    c.push_entry.ensures.entries)

pub returns-in-None-clause-refused : goal.returns-in-None-clause-refused
returns-in-None-clause-refused c =
    IfErr-weaker c.push_entry.result _ _
    (λ e entries. record {
      base_is = c.push_entry.ensures.base;
      index_is = ap (λ v. v.items) c.push_entry.ensures.index;
      encoded_is = ap (λ v. v.items) c.push_entry.ensures.encoded;
      entries_are = entries;
      any_is = c.push_entry.ensures.any;
    })
    c.push_entry.ensures.refused

pub returns-in-Some-clause-pushed : goal.returns-in-Some-clause-pushed
returns-in-Some-clause-pushed c =
    subst (λ (x : Option (List ℕ)). IfOk c.push_bytes.result (λ done. PushesChange c.args.self.now c.push_bytes.new.self x))
    (ap Some c.deref.ensures.value ∙ sym (ap (option_map (λ bytes. bytes.items)) c.in-Some.is)) c.push_bytes.ensures.pushed
