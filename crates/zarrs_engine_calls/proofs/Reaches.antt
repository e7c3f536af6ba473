-- Whoever may ask a whole chunk may read a part of it.
use Rattle.std.specs.Prelude.{ℕ, List}
use Rattle.zarrs_subset.specs.Regions.{Box}
use Rattle.zarrs_chunk_grid.specs.Grids.{box_at}
use Rattle.zarrs_storage.specs.Store.{StoreState}
use Rattle.zarrs_codec_chain.specs.Chain.{IsLawfulChain}
use Rattle.zarrs_engine_calls.specs.Layout.{Layout}
use Rattle.zarrs_engine_calls.specs.Reach.{MayAskChunk, MayAskChunks, MayDecodePart, MayReadPart, MayReadParts}
use Rattle.zarrs_engine_calls.specs.ChunkBoxes.{chunk_part}

module _ (layout : Layout) (lawful : IsLawfulChain layout.chain) (index : List ℕ) (state : StoreState) (may : MayAskChunk layout index state) where
  pub may_decode_asked : (part : Box) → MayDecodePart layout part index state
  may_decode_asked part = record {
    key = may.key;
    places = λ long value place is needed.
        may.places long value place is (lawful.places_inside layout.kind (box_at layout.grid index).shape part value place needed);
  }

  pub may_read_asked : (region : Box) → MayReadPart layout region index state
  may_read_asked region = record {
    part = may_decode_asked (chunk_part region (box_at layout.grid index));
    whole = λ covers. may;
  }

pub may_read_all : (layout : Layout) → IsLawfulChain layout.chain → (region : Box) (chunks : List (List ℕ)) (state : StoreState) → MayAskChunks layout chunks state → MayReadParts layout region chunks state
may_read_all layout lawful region chunks state may = λ index among. may_read_asked layout lawful index state (may index among) region
