-- the key is that of the encoded indices at the path
use Rattle.std.proofs.Common.{length, ◌++◌, refl, ap, sym, ◌∙◌, arith}
use Rattle.zarrs_keys.proofs.PathLemmas.{unrelated_apart, lawful_at}
use Rattle.zarrs_keys.proofs.StoreKeyLemmas.{if_ok}
use Rattle.zarrs_keys.proofs.array_keys.chunk_key.Goals as goal

pub returns-clause-no_metadata : goal.returns-clause-no_metadata
returns-clause-no_metadata g c =
    let keys = lawful_at c.args.path.now (g.E.ChunkKeyEncodingTraits.key c.args.encoding.now) (g.met.E.ChunkKeyEncodingTraits.lawful c.args.encoding.now) in
    if_ok _ _ c.from_string.result
    (λ key k name metadata e.
    let here = k ∙ c.in_ok-encode_into.ensures.appended ∙ ap (λ prefix. prefix ++ g.E.ChunkKeyEncodingTraits.key c.args.encoding.now c.args.indices.now) c.in_ok-key.ensures.text in
    keys.no_metadata (length c.args.indices.now) c.args.indices.now name
    (record { long = refl; words = λ k. omega (arith, c.type_inv.indices k) }) metadata (sym (e ∙ here)))
    c.from_string.ensures.ok

pub returns-clause-unrelated : goal.returns-clause-unrelated
returns-clause-unrelated g c =
    if_ok _ _ c.from_string.result
    (λ key k other name valid u e.
    let here = k ∙ c.in_ok-encode_into.ensures.appended ∙ ap (λ prefix. prefix ++ g.E.ChunkKeyEncodingTraits.key c.args.encoding.now c.args.indices.now) c.in_ok-key.ensures.text in
    unrelated_apart c.args.path.now other c.in_ok-key.ensures.valid valid u (g.E.ChunkKeyEncodingTraits.key c.args.encoding.now c.args.indices.now) name (sym (e ∙ here)))
    c.from_string.ensures.ok
