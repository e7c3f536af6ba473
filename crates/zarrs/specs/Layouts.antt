-- How an array that its metadata means lies in its store.
use Rattle.std.specs.Prelude.{ℕ, List}
use Rattle.zarrs_keys.specs.Encodings.{encoding_key}
use Rattle.zarrs_chunk_grid.specs.Configurations.{grid_of}
use Rattle.zarrs_codec.specs.Configurations.{meaning_of_chain}
use Rattle.zarrs_engine_calls.specs.Layout.{Layout, layout_at}
use Rattle.zarrs_creation.specs.Meanings.{Meaning}

-- how an array that its metadata means lies in its store, at a path
abbrev pub layout_meant : List ℕ → Meaning → Layout
layout_meant path m = layout_at (grid_of m.grid m.shape) path (encoding_key m.keys) (meaning_of_chain m.chain) m.kind m.fill
