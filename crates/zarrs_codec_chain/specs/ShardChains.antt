-- Chains of shards, over the chain of their subchunks. Subchunks of fill are not stored.
use Rattle.std.specs.Prelude.{◌≡◌, ◌⊎◌, ℕ, Bool, false, None, Some, List}
use Rattle.zarrs_data_type.specs.Cell.{Cell}
use Rattle.zarrs_data_type.specs.Kind.{Kind}
use Rattle.zarrs_codec_shard.specs.Sharded.{HoldsEncodedParts, SubchunkMeaning, sharded_compacted, sharded_decoded, sharded_encoded}
use Rattle.zarrs_codec_chain.specs.Chain.{ChainMeaning, IsLawfulChain}

-- what a chain means to subchunks of one type, fill value and shape
abbrev pub subchunks_by : ChainMeaning → Kind → (fill : Cell) (sub : List ℕ) → SubchunkMeaning
subchunks_by inner k fill sub = record {
  fits = inner.fits k sub;
  encoded = inner.encoded false k fill sub;
  decoded = inner.decoded k fill sub;
}

-- the chain makes shards of subchunks of this shape, which the chain `inner` encodes
pub record MakesShards (chain inner : ChainMeaning) (at_start : Bool) (sub : List ℕ) : Type 0 where
  pub encoded : (k : Kind) (f : Cell) (s : List ℕ) (cs : List Cell)
      → chain.encoded false k f s cs ≡ sharded_encoded (subchunks_by inner k f sub) at_start false f s sub cs
  pub decoded : (k : Kind) (f : Cell) (s b : List ℕ) → chain.decoded k f s b ≡ sharded_decoded (subchunks_by inner k f sub) at_start k f s sub b
  pub compacted : (s b : List ℕ) → chain.compacted s b ≡ sharded_compacted at_start s sub b

-- the bytes are these and have no compaction, or they compact to these
abbrev pub IsOrCompactsTo : ChainMeaning → (shape encoded made : List ℕ) → Type 0
IsOrCompactsTo chain shape encoded made =
    ((encoded ≡ made) × (chain.compacted shape encoded ≡ Some None)) ⊎ (chain.compacted shape encoded ≡ Some (Some made))

-- A shard whose present subchunks hold the encoded bytes of their cells, none of them all fill, is the encoded bytes of its
-- own cells and has no compaction, or it compacts to those bytes.
abbrev pub ShardsCompactToTheirEncoding : Type 0
ShardsCompactToTheirEncoding =
    (chain inner : ChainMeaning) (at_start : Bool) (sub : List ℕ) → MakesShards chain inner at_start sub → IsLawfulChain inner
    → (k : Kind) (fill : Cell) (shape encoded made : List ℕ) (cells : List Cell)
    → HoldsEncodedParts (subchunks_by inner k fill sub) at_start fill shape sub encoded
    → chain.decoded k fill shape encoded ≡ Some cells → chain.encoded false k fill shape cells ≡ Some made
    → IsOrCompactsTo chain shape encoded made
