-- An array with another grid is one that its new metadata says.
use Rattle.std.proofs.Common.{◌≡◌, ℕ, List, length, Option, Some, Ok, refl, ap, subst, sym, ◌∙◌}
use Rattle.std.specs.Result.{result_ok}
use Rattle.zarrs_keys.specs.declared.encodings.ChunkKeyEncoding.{ChunkKeyEncoding}
use Rattle.zarrs_keys.specs.declared.traits.ChunkKeyEncodingTraits.{Ghosts as KeyMeaning}
use Rattle.zarrs_chunk_grid.specs.Grids.{Grid}
use Rattle.zarrs_chunk_grid.specs.GridView.{configuration_of, array_extents_of}
use Rattle.zarrs_chunk_grid.specs.Metadata.{configuration_said, extension_of_grid}
use Rattle.zarrs_chunk_grid.specs.declared.grid.ChunkGrid.{ChunkGrid}
use Rattle.zarrs_chunk_grid.specs.declared.traits.ChunkGridTraits.{Ghosts as GridMeaning}
use Rattle.zarrs_chunk_grid.proofs.MetadataLemmas.{said_back}
use Rattle.zarrs_codec.specs.declared.chain.CodecChain.{CodecChain}
use Rattle.zarrs_codec_chain.specs.declared.traits.ChainTraits.{Ghosts as ChainMeanings}
use Rattle.zarrs_metadata.specs.Versions.{MetadataData, v3, v2, metadata_view}
use Rattle.zarrs_metadata.specs.declared.versions.ArrayMetadata.{ArrayMetadata}
use Rattle.zarrs_codec.specs.Chain.{ChainMeaning}
use Rattle.zarrs_data_type.specs.Kind.{Kind, kind}
use Rattle.zarrs_engine_calls.specs.Content.{content}
use Rattle.zarrs_engine_calls.specs.Laws.{EachDecodes, over_grid}
use Rattle.zarrs_engine_calls.specs.Layout.{Layout, layout_at}
use Rattle.zarrs_engine.specs.Engine.{layout_of, path_of, grid_of, keys_of, chain_of, data_type_of, fill_value_of, GivesGrid, KeepsOthers, KeepsLayout}
use Rattle.zarrs_engine.specs.declared.engine.Engine.{Engine}
use Rattle.zarrs_creation.specs.Changes.{with_shape}
use Rattle.zarrs_creation.specs.Meanings.{Meaning, meaning_with, creation, shape_said}
use Rattle.zarrs_creation.proofs.Grids.{cut_by, IsCutAnew, own_grid, resized_dimensions, is_resized}
use Rattle.zarrs.specs.Agreement.{meaning_of, Agrees}
use Rattle.zarrs.specs.Setters.{HasSameChunk, KeepsCells, KeepsDecoding}

-- grids that are written in the same way have the same name and sizes
pub one_configuration : (a b : ChunkGrid) → extension_of_grid (configuration_of a) ≡ extension_of_grid (configuration_of b) → configuration_of a ≡ configuration_of b
one_configuration a b same =
    let both : Some (configuration_of a) ≡ Some (configuration_of b) = sym (said_back a) ∙ ap configuration_said same ∙ said_back b in
    cc

own_shape : (m : MetadataData) → m ≡ with_shape (shape_said m) m
own_shape (v3 m) = refl
own_shape (v2 m) = refl

-- where the chunk's box stays, the cell is read in the same way
same_cell : (old new : Grid) (path : List ℕ) (key : List ℕ → List ℕ) (chain : ChainMeaning) (k : Kind) (fill : List ℕ) (stored : List ℕ → Option (List ℕ)) (position : List ℕ) → HasSameChunk old new position
    → content (layout_at new path key chain k fill) stored position ≡ content (layout_at old path key chain k fill) stored position
unfolding content
same_cell old new path key chain k fill stored position same = rw (same.covered, same.index, same.box) refl

module _ {g : GridMeaning ChunkGrid} {k : KeyMeaning ChunkKeyEncoding} {c : ChainMeanings CodecChain} {S : Type 0} where
  -- the same engine has the same layout
  pub layout_same : (old new : Engine S ChunkGrid ChunkKeyEncoding CodecChain g k c) → new ≡ old → KeepsLayout old new
  layout_same old new same = ap (λ (e : Engine S ChunkGrid ChunkKeyEncoding CodecChain g k c). e.layout) same

  -- the parts of an engine that was given a grid
  meaning_after : (given : ChunkGrid) (old new : Engine S ChunkGrid ChunkKeyEncoding CodecChain g k c) → GivesGrid given old new → meaning_of new ≡ cut_by (array_extents_of given) (configuration_of given) (meaning_of old)
  meaning_after given old new gives =
      ap (λ x. meaning_with x (keys_of new) (chain_of new) (data_type_of new) (fill_value_of new)) gives.grid
      ∙ ap (λ x. meaning_with given x (chain_of new) (data_type_of new) (fill_value_of new)) gives.keys
      ∙ ap (λ x. meaning_with given (keys_of old) x (data_type_of new) (fill_value_of new)) gives.chain
      ∙ ap (λ x. meaning_with given (keys_of old) (chain_of old) x (fill_value_of new)) gives.data_type
      ∙ ap (λ x. meaning_with given (keys_of old) (chain_of old) (data_type_of old) x) gives.fill_value

  -- metadata that says the grid, and else what it said, says the parts of such an engine
  pub agrees_after : (given : ChunkGrid) (old new : Engine S ChunkGrid ChunkKeyEncoding CodecChain g k c) (m : MetadataData) (n : ArrayMetadata) (shape : List ℕ)
      → GivesGrid given old new → IsCutAnew m (metadata_view n) (meaning_of old) shape (configuration_of given) → array_extents_of given ≡ shape → Agrees new n
  agrees_after given old new m n shape gives cut over =
      ap result_ok (cut.says ∙ ap (λ (s : List ℕ). Ok (cut_by s (configuration_of given) (meaning_of old))) (sym over) ∙ ap (λ (p : Meaning). Ok p) (sym (meaning_after given old new gives)))

  -- such an engine lies in its store as before, but over the grid
  layout_after : (given : ChunkGrid) (old new : Engine S ChunkGrid ChunkKeyEncoding CodecChain g k c) → GivesGrid given old new → layout_of new ≡ over_grid (layout_of new).grid (layout_of old)
  layout_after given old new gives =
      let grid = g.grid (grid_of new) in
      ap (λ x. layout_at grid x (k.key (keys_of new)) (c.meaning (chain_of new)) (kind (data_type_of new)) (fill_value_of new)) gives.path
      ∙ ap (λ x. layout_at grid (path_of old) (k.key x) (c.meaning (chain_of new)) (kind (data_type_of new)) (fill_value_of new)) gives.keys
      ∙ ap (λ x. layout_at grid (path_of old) (k.key (keys_of old)) (c.meaning x) (kind (data_type_of new)) (fill_value_of new)) gives.chain
      ∙ ap (λ x. layout_at grid (path_of old) (k.key (keys_of old)) (c.meaning (chain_of old)) (kind x) (fill_value_of new)) gives.data_type
      ∙ ap (λ x. layout_at grid (path_of old) (k.key (keys_of old)) (c.meaning (chain_of old)) (kind (data_type_of old)) x) gives.fill_value

  -- it reads the same cell wherever the chunk's box stays
  pub cells_after : (given : ChunkGrid) (old new : Engine S ChunkGrid ChunkKeyEncoding CodecChain g k c) → GivesGrid given old new → KeepsCells (layout_of old) (layout_of new)
  cells_after given old new gives = λ stored position same.
      let grid = g.grid (grid_of new) in
      ap (λ (l : Layout). content l stored position) (layout_after given old new gives)
      ∙ same_cell (g.grid (grid_of old)) grid (path_of old) (k.key (keys_of old)) (c.meaning (chain_of old)) (kind (data_type_of old)) (fill_value_of old) stored position same

  -- and each chunk decodes that decodes for its box in the grid
  pub decodes_after : (given : ChunkGrid) (old new : Engine S ChunkGrid ChunkKeyEncoding CodecChain g k c) → GivesGrid given old new → KeepsDecoding (layout_of old) (layout_of new)
  decodes_after given old new gives = λ state each. subst (λ (l : Layout). EachDecodes l state) (sym (layout_after given old new gives)) each

  -- ---- after a change of the shape

  module _ (m : MetadataData) (old new : Engine S ChunkGrid ChunkKeyEncoding CodecChain g k c) (made : creation m ≡ Ok (meaning_of old)) where
    module _ (others : KeepsOthers old new) (same : configuration_of (grid_of new) ≡ configuration_of (grid_of old)) where
      meaning_resized : meaning_of new ≡ cut_by (array_extents_of (grid_of new)) (configuration_of (grid_of new)) (meaning_of old)
      meaning_resized =
          ap (λ x. meaning_with (grid_of new) x (chain_of new) (data_type_of new) (fill_value_of new)) others.keys
          ∙ ap (λ x. meaning_with (grid_of new) (keys_of old) x (data_type_of new) (fill_value_of new)) others.chain
          ∙ ap (λ x. meaning_with (grid_of new) (keys_of old) (chain_of old) x (fill_value_of new)) others.data_type
          ∙ ap (λ x. meaning_with (grid_of new) (keys_of old) (chain_of old) (data_type_of old) x) others.fill_value

      -- the metadata takes the shape that the grid has
      pub shape_fits : length (array_extents_of (grid_of new)) ≡ length (shape_said m)
      shape_fits = resized_dimensions m (meaning_of old) (grid_of new) made same

      -- and says the parts then
      pub agrees_resized : (n : ArrayMetadata) → metadata_view n ≡ with_shape (array_extents_of (grid_of new)) m → Agrees new n
      agrees_resized n is =
          ap result_ok (ap creation is ∙ (is_resized m (meaning_of old) (grid_of new) made same).says ∙ ap (λ (p : Meaning). Ok p) (sym meaning_resized))

    -- a grid that stays has the shape that the metadata has
    pub shape_kept : KeepsLayout old new → m ≡ with_shape (array_extents_of (grid_of new)) m
    shape_kept kept =
        own_shape m ∙ ap (λ (s : List ℕ). with_shape s m) (sym (own_grid m (meaning_of old) made).1) ∙ ap (λ x. with_shape (array_extents_of x.grid) m) (sym kept)
