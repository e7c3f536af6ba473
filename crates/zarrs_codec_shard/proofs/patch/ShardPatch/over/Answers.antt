use Rattle.std.proofs.Common.{◌-◌, ◌*◌, length, take, drop, refl, sym, ap, ◌∙◌}
use Rattle.std.proofs.lemmas.List.{length-drop}
use Rattle.std.proofs.Math.Seq.{take-length}
use Rattle.zarrs_codec_shard.proofs.Patching.{some_long, some_started}
use Rattle.zarrs_codec_shard.proofs.patch.ShardPatch.over.Goals as goal

pub returns : goal.returns
returns c = λ parts.
    let shard = c.args.shard.now in
    let end = length shard - c.args.count * 16 in
    some_started c.args.count shard parts _ (some_long c.args.count shard c.requires.stored) refl
    (c.in_ok-from_slice.ensures.items ∙ ap (λ n. take n (drop end shard)) (sym (length-drop end shard)) ∙ take-length (drop end shard))
    c.new.ensures.items c.in_ok-with_capacity.ensures.items refl
