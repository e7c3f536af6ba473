-- What a compaction leaves of a chunk whose subchunks hold their encoding.
use Rattle.std.proofs.Common.{◌≡◌, ◌∙◌, ℕ, Bool, true, false, List, None, Some, inl, inr, sym, ap}
use Rattle.zarrs_chunk_grid.specs.Grids.{box_at}
use Rattle.zarrs_storage.specs.Store.{StoreState}
use Rattle.zarrs_codec_chain.proofs.ShardChains.{shards_compact}
use Rattle.zarrs_codec_chain.specs.ShardChains.{IsOrCompactsTo}
use Rattle.zarrs_engine_calls.specs.Compactions.{CompactsChunk, compacted_bytes}
use Rattle.zarrs_engine_calls.specs.Content.{value_at}
use Rattle.zarrs_engine_calls.specs.Layout.{Layout}
use Rattle.zarrs_engine.specs.ShardCompactions.{CompactionsEncode}

module _ (layout : Layout) (index encoded made : List ℕ) (old new : StoreState) (stands : value_at old (layout.key index) ≡ Some encoded) where
  abbrev Left : Type 0
  Left = value_at new (layout.key index) ≡ Some made

  -- by its answer, and by whether the bytes are compact
  left : (answer : Bool) → IsOrCompactsTo layout.chain (box_at layout.grid index).shape encoded made → CompactsChunk layout index answer old new → Left
  left false (inl same) c = ap (λ s. value_at s (layout.key index)) c.same ∙ stands ∙ ap Some same.0
  left false (inr other) c =
      let clash : Some None ≡ Some (Some made) = sym (c.compact encoded stands).1 ∙ other in
      absurd (cc)
  left true (inl same) c =
      let both : Some c.encoded ≡ Some encoded = sym c.stands ∙ stands in
      let is : c.encoded ≡ encoded = cc in
      let clash : Some (Some c.less) ≡ Some None = sym c.compacts ∙ ap (compacted_bytes layout index) is ∙ same.1 in
      absurd (cc)
  left true (inr other) c =
      let both : Some c.encoded ≡ Some encoded = sym c.stands ∙ stands in
      let is : c.encoded ≡ encoded = cc in
      let one : Some (Some c.less) ≡ Some (Some made) = sym c.compacts ∙ ap (compacted_bytes layout index) is ∙ other in
      let less_is : c.less ≡ made = cc in
      c.put.held ∙ ap Some less_is

pub compactions_encode : CompactionsEncode
compactions_encode layout inner at_start sub makes law index encoded made cells answer old new stands held is_decoded is_encoded compacts =
    left layout index encoded made old new stands answer
    (shards_compact layout.chain inner at_start sub makes law layout.kind layout.fill (box_at layout.grid index).shape encoded made cells held is_decoded is_encoded) compacts
