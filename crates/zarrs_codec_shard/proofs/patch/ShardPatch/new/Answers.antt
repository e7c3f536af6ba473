use Rattle.std.proofs.Common.{List, ℕ, [], Option, IfOk, option_map, sym, ap, subst}
use Rattle.zarrs_codec_shard.specs.ShardPatches.{IsPatching}
use Rattle.zarrs_codec_shard.proofs.patch.ShardPatch.new.Goals as goal

pub returns-in-Some : goal.returns-in-Some
returns-in-Some c =
    subst (λ (o : Option (List ℕ)). IfOk c.over.result (λ patch. (parts : List (Option (List ℕ))) → IsPatching c.args.count o parts patch []))
    (sym (ap (option_map (λ shard. shard.now)) c.in-Some.is)) c.over.ensures

pub returns-in-None : goal.returns-in-None
returns-in-None c =
    subst (λ (o : Option (List ℕ)). IfOk c.over_nothing.result (λ patch. (parts : List (Option (List ℕ))) → IsPatching c.args.count o parts patch []))
    (sym (ap (option_map (λ shard. shard.now)) c.in-None.is)) c.over_nothing.ensures
