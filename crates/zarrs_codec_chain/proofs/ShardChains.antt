-- The law of compact shards, over chains.
use Rattle.std.proofs.Common.{ℕ, Bool, false, List, sym, ◌∙◌, inl, inr}
use Rattle.zarrs_data_type.specs.Cell.{Cell}
use Rattle.zarrs_data_type.specs.Kind.{Kind}
use Rattle.zarrs_subset.specs.Boxes.{position_count}
use Rattle.zarrs_codec_shard.specs.Sharded.{CompactsTo, IsLawfulSubchunk}
use Rattle.zarrs_codec_shard.proofs.Compaction.{encoded_parts_compact}
use Rattle.zarrs_codec_chain.specs.Chain.{ChainMeaning, IsLawfulChain}
use Rattle.zarrs_codec_chain.specs.ShardChains.{IsOrCompactsTo, MakesShards, ShardsCompactToTheirEncoding, subchunks_by}

lawful_subchunks : (inner : ChainMeaning) → IsLawfulChain inner → (k : Kind) (f : Cell) (sub : List ℕ) → IsLawfulSubchunk k (position_count sub) (subchunks_by inner k f sub)
lawful_subchunks inner law k f sub = record {
  round_trip = λ cs b values len made. law.round_trip false k f sub cs b values len made;
  decoded_len = λ b cs made. law.decoded_len k f sub b cs made;
}

of_chain : (chain inner : ChainMeaning) (at_start : Bool) (sub : List ℕ) → MakesShards chain inner at_start sub
    → (shape encoded made : List ℕ) → CompactsTo at_start shape sub encoded made → IsOrCompactsTo chain shape encoded made
of_chain chain inner at_start sub makes shape encoded made (inl same) = inl (same.0, makes.compacted shape encoded ∙ same.1)
of_chain chain inner at_start sub makes shape encoded made (inr other) = inr (makes.compacted shape encoded ∙ other)

pub shards_compact : ShardsCompactToTheirEncoding
shards_compact chain inner at_start sub makes law k f s encoded made cells held is_decoded is_encoded =
    of_chain chain inner at_start sub makes s encoded made
    (encoded_parts_compact (subchunks_by inner k f sub) at_start k f s sub (lawful_subchunks inner law k f sub) encoded made cells held
    (sym (makes.decoded k f s encoded) ∙ is_decoded) (sym (makes.encoded k f s cells) ∙ is_encoded))
