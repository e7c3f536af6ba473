-- The document that is written reads as what was written.
use Rattle.std.proofs.Common.{◌≡◌, ℕ, List, Option, Some, None, true, option_and_then, codes, refl, ap, ◌∙◌}
use Rattle.serde_json.specs.Data.{Data, string, object, Members, no_members, member}
use Rattle.serde_json.specs.Find.{get_member, as_str}
use Rattle.zarrs_metadata_parts.specs.Lists.{number_data, numbers_of, numbers_data, list_of, size_said}
use Rattle.zarrs_metadata_parts.specs.Separator.{separator_of, separator_data}
use Rattle.zarrs_metadata_parts.specs.declared.separators.ChunkKeySeparator.{ChunkKeySeparator}
use Rattle.zarrs_metadata_parts.specs.declared.separators.ChunkKeySeparator.TheVariants.{Slash, Dot}
use Rattle.zarrs_metadata_parts.proofs.ListLemmas.{numbers_of-numbers_data}
use Rattle.zarrs_metadata_v3.specs.Members.{put_some, put_all, members_in, object_data, reads_as_number}
use Rattle.zarrs_metadata_v3.proofs.MemberLemmas.{get_member-put_all}
use Rattle.zarrs_metadata_v2.specs.declared.order.ArrayMetadataV2Order.{ArrayMetadataV2Order}
use Rattle.zarrs_metadata_v2.specs.declared.order.ArrayMetadataV2Order.TheVariants.{C, F}
use Rattle.zarrs_metadata_v2.specs.Document.{DocumentV2Data, chunk_order_of, dimension_separator_in, document_v2_in, document_v2_of, order_data, document_v2_members, data_v2_with, data_of_v2, without_attributes}

-- ---- written one after the other

pub written_in_turn : (attributes : Option Data) (m : DocumentV2Data) (m_zarr_format m_shape m_chunks m_dtype m_compressor m_fill_value m_order m_filters m_dimension_separator m_attributes : Members)
    → m_zarr_format ≡ put_some (codes "zarr_format") (Some (number_data 2)) no_members
    → m_shape ≡ put_some (codes "shape") (Some (numbers_data m.shape)) m_zarr_format
    → m_chunks ≡ put_some (codes "chunks") (Some (numbers_data m.chunks)) m_shape
    → m_dtype ≡ put_some (codes "dtype") (Some (string m.dtype)) m_chunks
    → m_compressor ≡ put_some (codes "compressor") (Some m.compressor) m_dtype
    → m_fill_value ≡ put_some (codes "fill_value") (Some m.fill_value) m_compressor
    → m_order ≡ put_some (codes "order") (Some (order_data m.order)) m_fill_value
    → m_filters ≡ put_some (codes "filters") (Some m.filters) m_order
    → m_dimension_separator ≡ put_some (codes "dimension_separator") (Some (separator_data m.dimension_separator)) m_filters
    → m_attributes ≡ put_some (codes "attributes") attributes m_dimension_separator
    → object m_attributes ≡ data_v2_with attributes m
unfolding data_v2_with
written_in_turn attributes m m_zarr_format m_shape m_chunks m_dtype m_compressor m_fill_value m_order m_filters m_dimension_separator m_attributes e_zarr_format e_shape e_chunks e_dtype e_compressor e_fill_value e_order e_filters e_dimension_separator e_attributes =
    rw (e_attributes, e_dimension_separator, e_filters, e_order, e_fill_value, e_compressor, e_dtype, e_chunks, e_shape, e_zarr_format) refl

-- ---- what a written document reads as

pub document_in_all : (ms : Members) (m : DocumentV2Data)
    → option_and_then numbers_of (get_member (codes "shape") ms) ≡ Some m.shape → option_and_then (list_of size_said) (get_member (codes "chunks") ms) ≡ Some m.chunks → option_and_then as_str (get_member (codes "dtype") ms) ≡ Some m.dtype
    → get_member (codes "compressor") ms ≡ Some m.compressor → get_member (codes "fill_value") ms ≡ Some m.fill_value → option_and_then chunk_order_of (get_member (codes "order") ms) ≡ Some m.order → get_member (codes "filters") ms ≡ Some m.filters
    → dimension_separator_in (get_member (codes "dimension_separator") ms) ≡ Some m.dimension_separator → members_in (get_member (codes "attributes") ms) ≡ Some m.attributes → document_v2_in ms ≡ Some m
unfolding document_v2_in
document_in_all ms m e1 e2 e3 e4 e5 e6 e7 e8 e9 = rw (e1, e2, e3, e4, e5, e6, e7, e8, e9) refl

order_back : (o : ArrayMetadataV2Order) → chunk_order_of (order_data o) ≡ Some o
order_back C = refl
order_back F = refl

separator_back : (s : ChunkKeySeparator) → separator_of (separator_data s) ≡ Some s
separator_back Slash = refl
separator_back Dot = refl

attributes_back : (ms : Members) → members_in (object_data ms) ≡ Some ms
attributes_back no_members = refl
attributes_back (member key d ms) = refl

pub data_v2_with_back : (m : DocumentV2Data) → option_and_then (list_of size_said) (Some (numbers_data m.chunks)) ≡ Some m.chunks → document_v2_of (data_of_v2 m) ≡ Some m
unfolding data_v2_with
data_v2_with_back m sizes =
    let es = document_v2_members (object_data m.attributes) m in
    let ms = put_all es no_members in
    let found = λ (key : List ℕ). get_member-put_all key es no_members refl in
    let format : reads_as_number 2 (get_member (codes "zarr_format") ms) ≡ true = ap (reads_as_number 2) (found (codes "zarr_format")) in
    let read = document_in_all ms m
    (ap (option_and_then numbers_of) (found (codes "shape")) ∙ numbers_of-numbers_data m.shape)
    (ap (option_and_then (list_of size_said)) (found (codes "chunks")) ∙ sizes)
    (ap (option_and_then as_str) (found (codes "dtype")))
    (found (codes "compressor"))
    (found (codes "fill_value"))
    (ap (option_and_then chunk_order_of) (found (codes "order")) ∙ order_back m.order)
    (found (codes "filters"))
    (ap dimension_separator_in (found (codes "dimension_separator")) ∙ separator_back m.dimension_separator)
    (ap members_in (found (codes "attributes")) ∙ attributes_back m.attributes) in
    rw format read

-- attributes that are left out are not written
pub without_same : (m : DocumentV2Data) → data_v2_with None m ≡ data_of_v2 (without_attributes m)
unfolding data_v2_with
without_same m = refl
