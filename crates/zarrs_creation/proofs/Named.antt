-- Which key a refused opening names, and that what metadata says is refused by no store.
use Rattle.std.proofs.Common.{ℕ, List, [], ◌∷◌, length, Option, Some, None, Result, Ok, Err, Bool, true, false, ◌==◌, if◌then◌else◌, subst}
use Rattle.zarrs_keys.specs.Metadata.{key_encoding_of}
use Rattle.zarrs_chunk_grid.specs.Metadata.{grid_said}
use Rattle.zarrs_data_type.specs.FillMetadata.{fill_said}
use Rattle.zarrs_data_type.specs.TypeMetadata.{kind_of}
use Rattle.zarrs_codec.specs.Metadata.{chain_said}
use Rattle.zarrs_options.specs.Options.{transformers_said}
use Rattle.zarrs_keys.specs.declared.error.NodePathError.{NodePathError}
use Rattle.zarrs_keys.specs.declared.error.NodePathError.TheVariants as path_error
use Rattle.zarrs_storage.specs.declared.error.StorageError.{StorageError}
use Rattle.zarrs_storage.specs.declared.error.StorageError.TheVariants as store_error
use Rattle.zarrs_metadata_v3.specs.Fields.{FieldData}
use Rattle.zarrs_options.specs.Errors.{create_error_of_path, create_error_of_storage}
use Rattle.zarrs_metadata_v3.specs.Document.{DocumentData}
use Rattle.zarrs_metadata_v2.specs.Document.{DocumentV2Data}
use Rattle.zarrs_metadata.specs.Conversion.{ConversionRefusal, no_type, no_fill_value, no_codecs, to_v3}
use Rattle.zarrs_metadata.specs.Versions.{MetadataData, v3, v2}
use Rattle.zarrs_options.specs.Refusals.{CreateRefusal, node_path, additional_field, data_type, fill_value, fill_value_metadata, codecs, storage_transformers, chunk_grid, chunk_key_encoding, grid_dimensions, dimension_names, subchunk_shape, storage, unread, missing_metadata, unsupported_v2, out_of_memory, unused, said_or, create_refusal_of, RefusesCreation}
use Rattle.zarrs_creation.specs.Meanings.{names_said, extents_said, not_converted, creation_by, creation_v3, creation, ◌>>=◌}
use Rattle.zarrs_creation.specs.Opening.{NamesOneOf, fields_understood}
use Rattle.zarrs_creation.specs.Writing.{without_document}

-- of fewer keys it is one of more
pub named_more : (P Q : List ℕ → Type 0) (r : CreateRefusal) → ((key : List ℕ) → P key → Q key) → NamesOneOf P r → NamesOneOf Q r
named_more P Q (unread key) more named = more key named
named_more P Q node_path more named = tt
named_more P Q (additional_field name d) more named = tt
named_more P Q data_type more named = tt
named_more P Q (fill_value name d) more named = tt
named_more P Q (fill_value_metadata name d) more named = tt
named_more P Q codecs more named = tt
named_more P Q storage_transformers more named = tt
named_more P Q chunk_grid more named = tt
named_more P Q chunk_key_encoding more named = tt
named_more P Q (grid_dimensions n d) more named = tt
named_more P Q (dimension_names n d) more named = tt
named_more P Q (subchunk_shape shape) more named = tt
named_more P Q storage more named = tt
named_more P Q missing_metadata more named = tt
named_more P Q unsupported_v2 more named = tt
named_more P Q out_of_memory more named = tt
named_more P Q unused more named = tt

-- the result is refused by no store
abbrev IsUnstored : CreateRefusal → Type 0
IsUnstored storage = ⊥
IsUnstored (unread key) = ⊥
IsUnstored _ = Unit {0}

abbrev Unstored : {A : Type 0} → Result A CreateRefusal → Type 0
Unstored (Ok a) = Unit {0}
Unstored (Err r) = IsUnstored r

-- so a step after another one
chained : {A B : Type 0} (o : Result A CreateRefusal) (f : A → Result B CreateRefusal) → Unstored o → ((a : A) → Unstored (f a)) → Unstored (o >>= f)
chained (Ok a) f first next = next a
chained (Err r) f first next = first

-- and a choice of two
chosen : {A : Type 0} (b : Bool) (o p : Result A CreateRefusal) → Unstored o → Unstored p → Unstored (if b then o else p)
chosen true o p first next = first
chosen false o p first next = next

said : {A : Type 0} (r : CreateRefusal) (o : Option A) → IsUnstored r → Unstored (said_or r o)
said r None is = is
said r (Some a) is = tt

counted : (n : ℕ) (names : Option (List (Option (List ℕ)))) → Unstored (names_said n names)
counted n None = tt
counted n (Some names) = chosen (length names == n) (Ok tt) (Err (dimension_names (length names) n)) tt tt

v3_unstored : (m : DocumentData) → Unstored (creation_v3 m)
unfolding creation_v3
v3_unstored m =
    chained (said_or codecs (chain_said m.codecs)) _ (said codecs (chain_said m.codecs) tt) (λ chain.
    chained (said_or data_type (kind_of m.data_type)) _ (said data_type (kind_of m.data_type) tt) (λ kind.
    chained (said_or chunk_grid (grid_said m.chunk_grid m.shape)) _ (said chunk_grid (grid_said m.chunk_grid m.shape) tt) (λ grid.
    chained (said_or (fill_value_metadata m.data_type.name m.fill_value) (fill_said kind m.fill_value)) _
    (said (fill_value_metadata m.data_type.name m.fill_value) (fill_said kind m.fill_value) tt) (λ fill.
    chained (said_or storage_transformers (transformers_said m.storage_transformers)) _ (said storage_transformers (transformers_said m.storage_transformers) tt) (λ transformers.
    chained (said_or chunk_key_encoding (key_encoding_of m.chunk_key_encoding)) _ (said chunk_key_encoding (key_encoding_of m.chunk_key_encoding) tt) (λ keys.
    chained (names_said (length m.shape) m.dimension_names) _ (counted (length m.shape) m.dimension_names) (λ names. tt)))))))

extents : (m : DocumentV2Data) → Unstored (extents_said m)
extents m = chosen (length m.chunks == length m.shape) (Ok tt) (Err chunk_grid) tt tt

unconverted : (m : DocumentV2Data) (r : ConversionRefusal) → Unstored (not_converted m r)
unconverted m (no_type dtype) = tt
unconverted m (no_fill_value name value) = chained (extents_said m) _ (extents m) (λ fits. tt)
unconverted m no_codecs = chained (extents_said m) _ (extents m) (λ fits. tt)

by_v3 : (m : DocumentV2Data) (o : Result DocumentData ConversionRefusal) → Unstored (creation_by m o)
by_v3 m (Ok document) = v3_unstored document
by_v3 m (Err r) = unconverted m r

unstored : (m : MetadataData) → Unstored (creation m)
unstored (v3 m) = v3_unstored m
unstored (v2 m) = by_v3 m (to_v3 m)

-- what no store refuses is refused by no key
unstored_names : {A : Type 0} (P : List ℕ → Type 0) (o : Result A CreateRefusal) → Unstored o → (r : CreateRefusal) → RefusesCreation o r → NamesOneOf P r
unstored_names P o un r is = go r is
  where
    none : (key : List ℕ) → RefusesCreation o (unread key) → ⊥
    none key is = subst (λ x. Unstored x) is un

    go : (r : CreateRefusal) → RefusesCreation o r → NamesOneOf P r
    go (unread key) is = absurd (none key is)
    go node_path is = tt
    go (additional_field name d) is = tt
    go data_type is = tt
    go (fill_value name d) is = tt
    go (fill_value_metadata name d) is = tt
    go codecs is = tt
    go storage_transformers is = tt
    go chunk_grid is = tt
    go chunk_key_encoding is = tt
    go (grid_dimensions n d) is = tt
    go (dimension_names n d) is = tt
    go (subchunk_shape shape) is = tt
    go storage is = tt
    go missing_metadata is = tt
    go unsupported_v2 is = tt
    go out_of_memory is = tt
    go unused is = tt

-- so what metadata says
pub creation_names : (P : List ℕ → Type 0) (m : MetadataData) (r : CreateRefusal) → RefusesCreation (creation m) r → NamesOneOf P r
creation_names P m r is = unstored_names P (creation m) (unstored m) r is

fields : (fs : List (List ℕ × FieldData)) → Unstored (fields_understood fs)
fields [] = tt
fields (f ∷ fs) = chosen f.1.must_understand (Err (additional_field f.0 f.1.value)) (fields_understood fs) tt (fields fs)

-- and fields
pub fields_names : (P : List ℕ → Type 0) (fs : List (List ℕ × FieldData)) (r : CreateRefusal) → RefusesCreation (fields_understood fs) r → NamesOneOf P r
fields_names P fs r is = unstored_names P (fields_understood fs) (fields fs) r is

-- a path that is refused names no key
pub path_names : (P : List ℕ → Type 0) (e : NodePathError) → NamesOneOf P (create_refusal_of (create_error_of_path e))
path_names P path_error.Invalid = tt
path_names P path_error.OutOfMemory = tt

-- a store that refuses names no key
pub store_names : (P : List ℕ → Type 0) (e : StorageError) → NamesOneOf P (create_refusal_of (create_error_of_storage (without_document e)))
store_names P (store_error.InvalidMetadata at said) = tt
store_names P store_error.ReadOnly = tt
store_names P store_error.InvalidByteRange = tt
store_names P store_error.Exhausted = tt
store_names P (store_error.Other said) = tt
store_names P store_error.OutOfMemory = tt
