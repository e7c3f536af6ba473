use Rattle.std.proofs.Common.{rules, ◌≡◌, ◌*◌, replicate, refl}
use Rattle.zarrs_codec_shard.proofs.Patching.{none_started}
use Rattle.zarrs_codec_shard.proofs.patch.ShardPatch.over_nothing.Goals as goal

pub returns : goal.returns
returns c = λ parts.
    let zeros : c.in_ok-vec.field-0.items ≡ replicate (c.args.count * 16) 255 = search rules in
    none_started c.args.count parts _ refl zeros c.new.ensures.items c.in_ok-with_capacity.ensures.items refl
