use Rattle.std.proofs.Common.{rules}
use Rattle.zarrs_codec.specs.Chains.{chain_data}
use Rattle.zarrs_builder.proofs.Order.{chain_cut}
use Rattle.zarrs_builder.proofs.builder.ArrayBuilder.chain_for.Goals as goal

pub returns-in_ok-cut_chain-in-Some-clause-made : goal.returns-in_ok-cut_chain-in-Some-clause-made
returns-in_ok-cut_chain-in-Some-clause-made c =
    let why = chain_cut c.in_ok-subchunk_sizes-in-Some.field-0.items _ _ _ (chain_data c.in_ok-cut_chain-in-Some.field-0) c.in_ok-subchunk_sizes-in-Some.ensures.made c.in_ok-codecs.ensures c.in_ok-cut_chain-in-Some.ensures in
    search (rules, why)
