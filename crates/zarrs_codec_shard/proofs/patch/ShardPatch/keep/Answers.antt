use Rattle.std.proofs.Common.{rules, ◌≡◌, ◌+◌, ◌*◌, ◌++◌, length, refl, ap, ◌∙◌}
use Rattle.std.specs.Prelude.{slice_range}
use Rattle.zarrs_codec_shard.proofs.Patching.{kept}
use Rattle.zarrs_codec_shard.proofs.patch.ShardPatch.keep.Goals as goal

pub returns-clause-kept : goal.returns-clause-kept
returns-clause-kept c =
    let old = c.args.self.now in
    let start = c.len-start.result in
    let len : start ≡ length old.entries.items = search rules in
    let end = start + c.args.count * 16 in
    kept old _ c.args.count start end c.args.any refl refl refl len refl
    (c.in_ok-extend_from_slice.ensures.items ∙ ap (λ x. old.entries.items ++ slice_range x start end) c.deref.ensures.value)
    c.either-self.ensures
