-- Which refusal of a creation comes first.
use Rattle.std.proofs.Common.{◌≡◌, ℕ, List, length, Some, Result, Ok, refl}
use Rattle.zarrs_metadata_v3.specs.Document.{DocumentData}
use Rattle.zarrs_keys.specs.Metadata.{key_encoding_of}
use Rattle.zarrs_keys.specs.declared.encodings.ChunkKeyEncoding.{ChunkKeyEncoding}
use Rattle.zarrs_chunk_grid.specs.Configurations.{GridConfiguration}
use Rattle.zarrs_chunk_grid.specs.Metadata.{grid_said}
use Rattle.zarrs_data_type.specs.FillMetadata.{fill_said}
use Rattle.zarrs_data_type.specs.Kind.{Kind}
use Rattle.zarrs_data_type.specs.TypeMetadata.{kind_of}
use Rattle.zarrs_codec.specs.Metadata.{chain_said}
use Rattle.zarrs_codec.specs.Configurations.{ChainData}
use Rattle.zarrs_options.specs.Options.{transformers_said}
use Rattle.zarrs_options.specs.Refusals.{CreateRefusal, node_path, additional_field, data_type, fill_value, fill_value_metadata, codecs, storage_transformers, chunk_grid, chunk_key_encoding, grid_dimensions, dimension_names, subchunk_shape, storage, unread, missing_metadata, unsupported_v2, out_of_memory, unused, said_or, RefusesCreation}
use Rattle.zarrs_creation.specs.Meanings.{names_said, creation_v3, ◌>>=◌}

-- what a step refuses is refused
pub bound : {A B : Type 0} (o : Result A CreateRefusal) (f : A → Result B CreateRefusal) (r : CreateRefusal) → RefusesCreation o r → RefusesCreation (o >>= f) r
bound o f node_path is = rw is refl
bound o f (additional_field name d) is = rw is refl
bound o f data_type is = rw is refl
bound o f (fill_value name d) is = rw is refl
bound o f (fill_value_metadata name d) is = rw is refl
bound o f codecs is = rw is refl
bound o f storage_transformers is = rw is refl
bound o f chunk_grid is = rw is refl
bound o f chunk_key_encoding is = rw is refl
bound o f (grid_dimensions n d) is = rw is refl
bound o f (dimension_names n d) is = rw is refl
bound o f (subchunk_shape shape) is = rw is refl
bound o f storage is = rw is refl
bound o f (unread key) is = rw is refl
bound o f missing_metadata is = rw is refl
bound o f unsupported_v2 is = rw is refl
bound o f out_of_memory is = tt
bound o f unused is = rw is refl

module _ (m : DocumentData) (r : CreateRefusal) where
  pub at_codecs : RefusesCreation (said_or codecs (chain_said m.codecs)) r → RefusesCreation (creation_v3 m) r
  unfolding creation_v3
  at_codecs is = bound _ _ r is

  module _ (chain : ChainData) (e1 : chain_said m.codecs ≡ Some chain) where
    pub at_data_type : RefusesCreation (said_or data_type (kind_of m.data_type)) r → RefusesCreation (creation_v3 m) r
    unfolding creation_v3
    at_data_type is = rw e1 (bound _ _ r is)

    module _ (k : Kind) (e2 : kind_of m.data_type ≡ Some k) where
      pub at_grid : RefusesCreation (said_or chunk_grid (grid_said m.chunk_grid m.shape)) r → RefusesCreation (creation_v3 m) r
      unfolding creation_v3
      at_grid is = rw (e1, e2) (bound _ _ r is)

      module _ (grid : GridConfiguration) (e3 : grid_said m.chunk_grid m.shape ≡ Some grid) where
        pub at_fill : RefusesCreation (said_or (fill_value_metadata m.data_type.name m.fill_value) (fill_said k m.fill_value)) r → RefusesCreation (creation_v3 m) r
        unfolding creation_v3
        at_fill is = rw (e1, e2, e3) (bound _ _ r is)

        module _ (fill : List ℕ) (e4 : fill_said k m.fill_value ≡ Some fill) where
          pub at_transformers : RefusesCreation (said_or storage_transformers (transformers_said m.storage_transformers)) r → RefusesCreation (creation_v3 m) r
          unfolding creation_v3
          at_transformers is = rw (e1, e2, e3, e4) (bound _ _ r is)

          module _ (e5 : transformers_said m.storage_transformers ≡ Some tt) where
            pub at_keys : RefusesCreation (said_or chunk_key_encoding (key_encoding_of m.chunk_key_encoding)) r → RefusesCreation (creation_v3 m) r
            unfolding creation_v3
            at_keys is = rw (e1, e2, e3, e4, e5) (bound _ _ r is)

            module _ (keys : ChunkKeyEncoding) (e6 : key_encoding_of m.chunk_key_encoding ≡ Some keys) where
              pub at_names : RefusesCreation (names_said (length m.shape) m.dimension_names) r → RefusesCreation (creation_v3 m) r
              unfolding creation_v3
              at_names is = rw (e1, e2, e3, e4, e5, e6) (bound _ _ r is)

pub all_said : (m : DocumentData) (chain : ChainData) → chain_said m.codecs ≡ Some chain → (k : Kind) → kind_of m.data_type ≡ Some k → (grid : GridConfiguration) → grid_said m.chunk_grid m.shape ≡ Some grid → (fill : List ℕ) → fill_said k m.fill_value ≡ Some fill
    → transformers_said m.storage_transformers ≡ Some tt → (keys : ChunkKeyEncoding) → key_encoding_of m.chunk_key_encoding ≡ Some keys → names_said (length m.shape) m.dimension_names ≡ Ok tt
    → creation_v3 m ≡ Ok (record { shape = m.shape; grid = grid; keys = keys; chain = chain; kind = k; fill = fill })
unfolding creation_v3
all_said m chain e1 k e2 grid e3 fill e4 e5 keys e6 e7 = rw (e1, e2, e3, e4, e5, e6, e7) refl
