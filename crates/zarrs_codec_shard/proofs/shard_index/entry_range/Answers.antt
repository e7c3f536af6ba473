use Rattle.std.proofs.Common.{rules, arith, ◌≡◌, ◌+◌, ◌-◌, take, drop, sym, ap, ◌∙◌}
use Rattle.std.specs.Int.{w64, from_le_bytes}
use Rattle.zarrs_codec_shard.specs.Shards.{absent, entry_bytes}
use Rattle.zarrs_codec_shard.proofs.ShardReading.{entry_again}
use Rattle.zarrs_codec_shard.proofs.shard_index.entry_range.Goals as goal

pub returns-clause-entry : goal.returns-clause-entry
returns-clause-entry c =
    let entry = c.args.entry.now in
    let o = c.number_of-offset.result in
    let l = c.number_of-len.result in
    let o_is : o ≡ from_le_bytes w64 (take 8 entry) = search rules in
    let l_is : l ≡ from_le_bytes w64 (drop 8 entry) = search rules in
    let past : c.in_ok-past.past ≡ o + l = search rules in
    let width : c.in_ok-past.past - o ≡ l = omega arith in
    entry_again entry o l c.requires (λ i. omega (arith, c.type_inv.entry i)) o_is l_is ∙ ap (entry_bytes o) (sym width)

pub returns-then-len-clause-entry : goal.returns-then-len-clause-entry
returns-then-len-clause-entry c =
    let entry = c.args.entry.now in
    let o_is : absent ≡ from_le_bytes w64 (take 8 entry) = search rules in
    let l_is : absent ≡ from_le_bytes w64 (drop 8 entry) = search rules in
    entry_again entry absent absent c.requires (λ i. omega (arith, c.type_inv.entry i)) o_is l_is
