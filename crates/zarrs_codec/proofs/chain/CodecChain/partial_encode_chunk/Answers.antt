use Rattle.zarrs_data_type.specs.CellTypes.{chunk_fill, chunk_kind}
use Rattle.std.proofs.Common.{◌≡◌, true, option_map, sym, subst}
use Rattle.std.proofs.lemmas.Bool.{and_parts}
use Rattle.std.proofs.lemmas.Result.{IfErr-weaker}
use Rattle.zarrs_data_type.specs.ArrayData.{data_of}
use Rattle.zarrs_subset.specs.Regions.{box_of}
use Rattle.zarrs_codec_chain.specs.Options.{stores_empty_chunks}
use Rattle.zarrs_codec_chain.specs.Refusals.{RefusesPartialEncoding}
use Rattle.zarrs_codec.specs.Chains.{array_to_array_of, array_to_bytes_of, codec_meaning, no_codec, sharding_meaning}
use Rattle.zarrs_codec.proofs.PatchedShards.{alone_refusal}
use Rattle.zarrs_codec.proofs.chain.CodecChain.partial_encode_chunk.Goals as goal

pub returns-clause-refused : goal.returns-clause-refused
returns-clause-refused c =
    let k = chunk_kind c.args.chunk.now in
    let f = chunk_fill c.args.chunk.now in
    let empty = stores_empty_chunks c.args.options.now in
    let s = c.args.chunk.now.shape.now in
    let stored = option_map (λ encoded. encoded.now) c.args.stored in
    let part = box_of c.args.part.now in
    let d = data_of c.args.bytes.now in
    let codecs = array_to_array_of c.args.self.now in
    let last = array_to_bytes_of c.args.self.now in
    let alone : no_codec codecs ≡ true = (and_parts (no_codec codecs) (codec_meaning last).encodes_partly c.requires.supported).0 in
    IfErr-weaker c.partial_encode_shard.result _ _
    (λ e why.
    alone_refusal codecs (codec_meaning last) empty k f s stored part d e alone
    (subst (λ x. RefusesPartialEncoding (codec_meaning x) empty k f s stored part d e) (sym c.in-Sharding.is)
    (subst (λ x. RefusesPartialEncoding (sharding_meaning x) empty k f s stored part d e) c.deref.ensures why)))
    c.partial_encode_shard.ensures.refused
