use Rattle.std.proofs.Common.{rules, ◌≡◌, [], None, Some, map, option_map, unwrap_or, replicate, sym, ap, ◌∙◌}
use Rattle.zarrs_codec_shard.specs.PartialShards.{stored_parts}
use Rattle.zarrs_codec_shard.specs.ShardIndex.{range_part}
use Rattle.zarrs_codec_shard.proofs.Patching.{none_ranges}
use Rattle.zarrs_codec_shard.proofs.patch.stored_ranges.Goals as goal

pub returns-in_ok-vec-in-None-clause-parts : goal.returns-in_ok-vec-in-None-clause-parts
returns-in_ok-vec-in-None-clause-parts c =
    let items = c.in_ok-vec-in-None.field-0.items in
    let absent : items ≡ replicate c.args.count None = search rules in
    ap (λ o. stored_parts c.args.count (option_map (λ shard. shard.now) o)) c.in-None.is
    ∙ none_ranges [] c.args.count items absent
    ∙ ap (λ o. Some (map (range_part (unwrap_or (option_map (λ shard. shard.now) o) [])) items)) (sym c.in-None.is)
