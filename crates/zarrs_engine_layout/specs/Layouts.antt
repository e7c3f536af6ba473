-- What the layout of an array means.
use Rattle.zarrs_chunk_grid.specs.declared.traits.ChunkGridTraits.{Ghosts as GridMeaning}
use Rattle.zarrs_keys.specs.declared.traits.ChunkKeyEncodingTraits.{Ghosts as KeyMeaning}
use Rattle.zarrs_codec_chain.specs.declared.traits.ChainTraits.{Ghosts as ChainMeanings}
use Rattle.zarrs_data_type.specs.Kind.{kind}
use Rattle.zarrs_engine_calls.specs.Layout.{Layout, layout_at}
use Rattle.zarrs_engine_layout.specs.declared.array_layout.ArrayLayout.{ArrayLayout}

module _ {G K C : Type 0} {g : GridMeaning G} {k : KeyMeaning K} {c : ChainMeanings C} where
  -- where an array lies, and what its grid, keys, chain, and cell type mean
  abbrev pub layout_meaning : ArrayLayout G K C g k c → Layout
  layout_meaning layout =
      layout_at (g.grid layout.grid) layout.path (k.key layout.keys) (c.meaning layout.chain) (kind layout.cell_type.data_type) layout.cell_type.fill_value
