-- The document that is written reads as what was written.
use Rattle.std.proofs.Common.{◌≡◌, ℕ, List, [], ◌∷◌, map, Bool, true, false, Option, Some, None, option_map, option_and_then, codes, refl, ap, ◌∙◌}
use Rattle.serde_json.specs.Data.{string, object, Members, no_members, member}
use Rattle.serde_json.specs.Find.{get_member}
use Rattle.zarrs_metadata_parts.specs.Members.{is_named, besides}
use Rattle.zarrs_metadata_v3.specs.Members.{put_some, put_all, list_in, members_in, object_data, reads_as_number, reads_as_text}
use Rattle.zarrs_metadata_v3.specs.Fields.{FieldData, fields_of, fields_data, normal_field, normal_fields}
use Rattle.zarrs_metadata_parts.specs.Extension.{ExtensionData, normal, extension_of, extension_data}
use Rattle.zarrs_metadata_v3.specs.Document.{DocumentData, document_names, document_in, document_from}
use Rattle.zarrs_metadata_v3.specs.Document.{dimension_name_of, transformers_in, names_in}
use Rattle.zarrs_metadata_v3.specs.Document.{document_of, dimension_name_data, transformers_data, document_members, data_of_document, normal_document}
use Rattle.zarrs_metadata_parts.specs.Lists.{number_data, numbers_data, numbers_of, list_data}
use Rattle.zarrs_metadata_parts.proofs.ExtensionLaws.{round_trip}
use Rattle.zarrs_metadata_parts.proofs.ListLemmas.{all_of-items_of, map_same, numbers_of-numbers_data}
use Rattle.zarrs_metadata_v3.proofs.MemberLemmas.{get_member-besides_none, besides-again, get_member-put_all, besides-put_all}

-- ---- written one after the other

pub written_in_turn : (m : DocumentData) (start m_zarr_format m_node_type m_shape m_data_type m_chunk_grid m_chunk_key_encoding m_fill_value m_codecs m_attributes m_storage_transformers m_dimension_names : Members) → start ≡ besides document_names (fields_data m.additional_fields)
    → m_zarr_format ≡ put_some (codes "zarr_format") (Some (number_data 3)) start
    → m_node_type ≡ put_some (codes "node_type") (Some (string (codes "array"))) m_zarr_format
    → m_shape ≡ put_some (codes "shape") (Some (numbers_data m.shape)) m_node_type
    → m_data_type ≡ put_some (codes "data_type") (Some (extension_data m.data_type)) m_shape
    → m_chunk_grid ≡ put_some (codes "chunk_grid") (Some (extension_data m.chunk_grid)) m_data_type
    → m_chunk_key_encoding ≡ put_some (codes "chunk_key_encoding") (Some (extension_data m.chunk_key_encoding)) m_chunk_grid
    → m_fill_value ≡ put_some (codes "fill_value") (Some m.fill_value) m_chunk_key_encoding
    → m_codecs ≡ put_some (codes "codecs") (Some (list_data extension_data m.codecs)) m_fill_value
    → m_attributes ≡ put_some (codes "attributes") (object_data m.attributes) m_codecs
    → m_storage_transformers ≡ put_some (codes "storage_transformers") (transformers_data m.storage_transformers) m_attributes
    → m_dimension_names ≡ put_some (codes "dimension_names") (option_map (list_data dimension_name_data) m.dimension_names) m_storage_transformers
    → object m_dimension_names ≡ data_of_document m
unfolding data_of_document
written_in_turn m start m_zarr_format m_node_type m_shape m_data_type m_chunk_grid m_chunk_key_encoding m_fill_value m_codecs m_attributes m_storage_transformers m_dimension_names e e_zarr_format e_node_type e_shape e_data_type e_chunk_grid e_chunk_key_encoding e_fill_value e_codecs e_attributes e_storage_transformers e_dimension_names =
    rw (e_dimension_names, e_storage_transformers, e_attributes, e_codecs, e_fill_value, e_chunk_key_encoding, e_chunk_grid, e_data_type, e_shape, e_node_type, e_zarr_format, e) refl

-- ---- what a written document reads as

pub document_in_all : (ms : Members) (m : DocumentData)
    → option_and_then numbers_of (get_member (codes "shape") ms) ≡ Some m.shape → option_and_then extension_of (get_member (codes "data_type") ms) ≡ Some m.data_type → option_and_then extension_of (get_member (codes "chunk_grid") ms) ≡ Some m.chunk_grid
    → option_and_then extension_of (get_member (codes "chunk_key_encoding") ms) ≡ Some m.chunk_key_encoding → get_member (codes "fill_value") ms ≡ Some m.fill_value → list_in extension_of (get_member (codes "codecs") ms) ≡ Some m.codecs
    → members_in (get_member (codes "attributes") ms) ≡ Some m.attributes → transformers_in (get_member (codes "storage_transformers") ms) ≡ Some m.storage_transformers → names_in (get_member (codes "dimension_names") ms) ≡ Some m.dimension_names
    → fields_of (besides document_names ms) ≡ m.additional_fields → document_in ms ≡ Some m
unfolding document_in
document_in_all ms m e1 e2 e3 e4 e5 e6 e7 e8 e9 e10 = rw (e1, e2, e3, e4, e5, e6, e7, e8, e9, e10) refl

attributes_back : (ms : Members) → members_in (object_data ms) ≡ Some ms
attributes_back no_members = refl
attributes_back (member key d ms) = refl

list_back : (es : List ExtensionData) → list_in extension_of (Some (list_data extension_data es)) ≡ Some (map normal es)
list_back es = all_of-items_of extension_of extension_data normal round_trip es

transformers_back : (es : List ExtensionData) → transformers_in (transformers_data es) ≡ Some (map normal es)
transformers_back [] = refl
transformers_back (e ∷ es) = list_back (e ∷ es)

name_back : (name : Option (List ℕ)) → dimension_name_of (dimension_name_data name) ≡ Some name
name_back None = refl
name_back (Some text) = refl

names_back : (names : Option (List (Option (List ℕ)))) → names_in (option_map (list_data dimension_name_data) names) ≡ Some names
names_back None = refl
names_back (Some names) = ap (option_map Some) (all_of-items_of dimension_name_of dimension_name_data (λ n. n) name_back names ∙ ap Some (map_same names))

field_at : (p : Bool) (names : List (List ℕ)) (f : List ℕ × FieldData) (fs : List (List ℕ × FieldData)) → is_named names f.0 ≡ p → fields_of (besides names (fields_data fs)) ≡ normal_fields names fs
    → fields_of (besides names (fields_data (f ∷ fs))) ≡ normal_fields names (f ∷ fs)
field_at true names f fs is later = rw is later
field_at false names f fs is later = rw is (ap (λ r. (f.0, normal_field f.1) ∷ r) later)

-- the fields that are written are read again
fields_back : (names : List (List ℕ)) (fs : List (List ℕ × FieldData)) → fields_of (besides names (fields_data fs)) ≡ normal_fields names fs
fields_back names [] = refl
fields_back names (f ∷ fs) = field_at _ names f fs refl (fields_back names fs)

written_back : (m : DocumentData) → document_from (put_all (document_members m) (besides document_names (fields_data m.additional_fields))) ≡ Some (normal_document m)
written_back m =
    let es = document_members m in
    let base = besides document_names (fields_data m.additional_fields) in
    let ms = put_all es base in
    let found = λ (key : List ℕ) (named : is_named document_names key ≡ true). get_member-put_all key es base (get_member-besides_none document_names key (fields_data m.additional_fields) named) in
    let format : reads_as_number 3 (get_member (codes "zarr_format") ms) ≡ true = ap (reads_as_number 3) (found (codes "zarr_format") refl) in
    let node : reads_as_text (codes "array") (get_member (codes "node_type") ms) ≡ true = ap (reads_as_text (codes "array")) (found (codes "node_type") refl) in
    let read = document_in_all ms (normal_document m)
    (ap (option_and_then numbers_of) (found (codes "shape") refl) ∙ numbers_of-numbers_data m.shape)
    (ap (option_and_then extension_of) (found (codes "data_type") refl) ∙ round_trip m.data_type)
    (ap (option_and_then extension_of) (found (codes "chunk_grid") refl) ∙ round_trip m.chunk_grid)
    (ap (option_and_then extension_of) (found (codes "chunk_key_encoding") refl) ∙ round_trip m.chunk_key_encoding)
    (found (codes "fill_value") refl)
    (ap (list_in extension_of) (found (codes "codecs") refl) ∙ list_back m.codecs)
    (ap members_in (found (codes "attributes") refl) ∙ attributes_back m.attributes)
    (ap transformers_in (found (codes "storage_transformers") refl) ∙ transformers_back m.storage_transformers)
    (ap names_in (found (codes "dimension_names") refl) ∙ names_back m.dimension_names)
    (ap fields_of (besides-put_all document_names es base refl ∙ besides-again document_names (fields_data m.additional_fields)) ∙ fields_back document_names m.additional_fields) in
    rw (format, node) read

pub document_round_trip : (m : DocumentData) → document_of (data_of_document m) ≡ Some (normal_document m)
unfolding data_of_document
document_round_trip m = written_back m
