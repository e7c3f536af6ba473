-- Names of dimensions say nothing of the parts of an array.
use Rattle.std.proofs.Common.{◌≡◌, ℕ, List, length, Option, None, Result, Ok, Err, refl, sym, ap, ◌∙◌}
use Rattle.std.specs.Result.{result_ok}
use Rattle.zarrs_metadata_v3.specs.Document.{DocumentData}
use Rattle.zarrs_metadata.specs.Versions.{MetadataData, v3, v2}
use Rattle.zarrs_keys.specs.Metadata.{key_encoding_of}
use Rattle.zarrs_keys.specs.declared.encodings.ChunkKeyEncoding.{ChunkKeyEncoding}
use Rattle.zarrs_chunk_grid.specs.Configurations.{GridConfiguration}
use Rattle.zarrs_chunk_grid.specs.Metadata.{grid_said}
use Rattle.zarrs_data_type.specs.FillMetadata.{fill_said}
use Rattle.zarrs_data_type.specs.Kind.{Kind}
use Rattle.zarrs_data_type.specs.TypeMetadata.{kind_of}
use Rattle.zarrs_codec.specs.Metadata.{chain_said}
use Rattle.zarrs_codec.specs.Configurations.{ChainData}
use Rattle.zarrs_options.specs.Options.{transformers_said}
use Rattle.zarrs_options.specs.Refusals.{CreateRefusal, codecs, data_type, chunk_grid, fill_value_metadata, storage_transformers, chunk_key_encoding, said_or}
use Rattle.zarrs_creation.specs.Changes.{with_names, naming}
use Rattle.zarrs_creation.specs.Meanings.{Meaning, names_said, creation_v3, Says, ◌>>=◌}

-- the parts that a document says, step by step, by what the last step, that of the names, comes to
module _ (m : DocumentData) (last : Result (Unit {0}) CreateRefusal) where
  abbrev by_names : ChainData → Kind → GridConfiguration → List ℕ → ChunkKeyEncoding → Result Meaning CreateRefusal
  by_names chain kind grid fill keys = last >>= (λ names. Ok (record { shape = m.shape; grid = grid; keys = keys; chain = chain; kind = kind; fill = fill }))

  abbrev by_keys : ChainData → Kind → GridConfiguration → List ℕ → Result Meaning CreateRefusal
  by_keys chain kind grid fill = said_or chunk_key_encoding (key_encoding_of m.chunk_key_encoding) >>= (λ keys. by_names chain kind grid fill keys)

  abbrev by_transformers : ChainData → Kind → GridConfiguration → List ℕ → Result Meaning CreateRefusal
  by_transformers chain kind grid fill = said_or storage_transformers (transformers_said m.storage_transformers) >>= (λ transformers. by_keys chain kind grid fill)

  abbrev by_fill : ChainData → Kind → GridConfiguration → Result Meaning CreateRefusal
  by_fill chain kind grid = said_or (fill_value_metadata m.data_type.name m.fill_value) (fill_said kind m.fill_value) >>= (λ fill. by_transformers chain kind grid fill)

  abbrev by_grid : ChainData → Kind → Result Meaning CreateRefusal
  by_grid chain kind = said_or chunk_grid (grid_said m.chunk_grid m.shape) >>= (λ grid. by_fill chain kind grid)

  abbrev by_kind : ChainData → Result Meaning CreateRefusal
  by_kind chain = said_or data_type (kind_of m.data_type) >>= (λ kind. by_grid chain kind)

  abbrev by_last : Result Meaning CreateRefusal
  by_last = said_or codecs (chain_said m.codecs) >>= (λ chain. by_kind chain)

is_by_last : (m : DocumentData) → creation_v3 m ≡ by_last m (names_said (length m.shape) m.dimension_names)
unfolding creation_v3
is_by_last m = refl

none_after : {A B : Type 0} (o : Result A CreateRefusal) (f : A → Result B CreateRefusal) → ((a : A) → result_ok (f a) ≡ None) → result_ok (o >>= f) ≡ None
none_after (Ok a) f none = none a
none_after (Err r) f none = refl

none_if_last_is_refused : (m : DocumentData) (r : CreateRefusal) → result_ok (by_last m (Err r)) ≡ None
none_if_last_is_refused m r =
    let no = Err r in
    none_after (said_or codecs (chain_said m.codecs)) (λ chain. by_kind m no chain) (λ chain.
    none_after (said_or data_type (kind_of m.data_type)) (λ kind. by_grid m no chain kind) (λ kind.
    none_after (said_or chunk_grid (grid_said m.chunk_grid m.shape)) (λ grid. by_fill m no chain kind grid) (λ grid.
    none_after (said_or (fill_value_metadata m.data_type.name m.fill_value) (fill_said kind m.fill_value)) (λ fill. by_transformers m no chain kind grid fill) (λ fill.
    none_after (said_or storage_transformers (transformers_said m.storage_transformers)) (λ transformers. by_keys m no chain kind grid fill) (λ transformers.
    none_after (said_or chunk_key_encoding (key_encoding_of m.chunk_key_encoding)) (λ keys. by_names m no chain kind grid fill keys) (λ keys. refl))))))

names_of_v3 : (m : DocumentData) (names : Option (List (Option (List ℕ)))) (p : Meaning) → Says (v3 m) p → names_said (length m.shape) names ≡ Ok tt → Says (v3 (record m { dimension_names = names })) p
names_of_v3 m names p says fit = go (names_said (length m.shape) m.dimension_names) refl
  where
    go : (last : Result (Unit {0}) CreateRefusal) → names_said (length m.shape) m.dimension_names ≡ last → Says (v3 (record m { dimension_names = names })) p
    go (Ok tt) is =
        let named : creation_v3 (record m { dimension_names = names }) ≡ by_last m (Ok tt) = is_by_last (record m { dimension_names = names }) ∙ ap (λ last. by_last m last) fit in
        let was : creation_v3 m ≡ by_last m (Ok tt) = is_by_last m ∙ ap (λ last. by_last m last) is in
        ap result_ok (named ∙ sym was) ∙ says
    go (Err r) is =
        let none : result_ok (creation_v3 m) ≡ None = ap result_ok (is_by_last m ∙ ap (λ last. by_last m last) is) ∙ none_if_last_is_refused m r in
        cc

-- metadata with other names says the same parts
pub names_say_nothing : (m : MetadataData) (names : Option (List (Option (List ℕ)))) (p : Meaning) → Says m p → naming names m ≡ Ok tt → Says (with_names names m) p
names_say_nothing (v3 m) names p says fit = names_of_v3 m names p says fit
names_say_nothing (v2 m) names p says fit = says
