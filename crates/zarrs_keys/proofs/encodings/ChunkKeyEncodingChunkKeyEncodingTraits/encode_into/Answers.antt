-- the keys of numbers that fit are store keys
use Rattle.std.proofs.Common.{arith}
use Rattle.zarrs_keys.specs.KeyLaws.{all_fit}
use Rattle.zarrs_keys.proofs.StoreKeyLemmas.{on_ok, default_store_key, v2_store_key, suffix_store_key}
use Rattle.zarrs_keys.proofs.encodings.ChunkKeyEncodingChunkKeyEncodingTraits.encode_into.Goals as goal

pub returns-in-Default-clause-store_key : goal.returns-in-Default-clause-store_key
returns-in-Default-clause-store_key c =
    let fit = all_fit c.args.indices.now (λ k. omega (arith, c.type_inv.indices k)) in
    on_ok c.push_default.result (rw c.in-Default.is (default_store_key c.in-Default.separator c.args.indices.now fit))

pub returns-in-V2-clause-store_key : goal.returns-in-V2-clause-store_key
returns-in-V2-clause-store_key c =
    let fit = all_fit c.args.indices.now (λ k. omega (arith, c.type_inv.indices k)) in
    on_ok c.push_v2.result (rw c.in-V2.is (v2_store_key c.in-V2.separator c.args.indices.now fit))

pub returns-in_ok-push_default-in-DefaultSuffix-clause-store_key :
    goal.returns-in_ok-push_default-in-DefaultSuffix-clause-store_key
returns-in_ok-push_default-in-DefaultSuffix-clause-store_key c =
    on_ok c.push_str.result (rw c.in-DefaultSuffix.is (suffix_store_key c.in-DefaultSuffix.separator c.args.indices.now c.in-DefaultSuffix.suffix c.as_str.ensures.valid))
