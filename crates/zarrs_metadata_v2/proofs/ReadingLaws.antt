-- A document is none if one of its members does not read.
use Rattle.std.proofs.Common.{◌≡◌, ℕ, List, Some, None, option_and_then, codes, refl}
use Rattle.serde_json.specs.Data.{Data, Members}
use Rattle.serde_json.specs.Find.{get_member, as_str}
use Rattle.zarrs_metadata_parts.specs.Lists.{numbers_of, list_of, size_said}
use Rattle.zarrs_metadata_parts.specs.declared.separators.ChunkKeySeparator.{ChunkKeySeparator}
use Rattle.zarrs_metadata_v3.specs.Members.{members_in}
use Rattle.zarrs_metadata_v2.specs.declared.order.ArrayMetadataV2Order.{ArrayMetadataV2Order}
use Rattle.zarrs_metadata_v2.specs.Document.{document_v2_in, chunk_order_of, dimension_separator_in}

pub without_shape : (ms : Members) → option_and_then numbers_of (get_member (codes "shape") ms) ≡ None → document_v2_in ms ≡ None
unfolding document_v2_in
without_shape ms none = rw (none) refl

pub without_chunks : (ms : Members) {shape : List ℕ} → option_and_then numbers_of (get_member (codes "shape") ms) ≡ Some shape → option_and_then (list_of size_said) (get_member (codes "chunks") ms) ≡ None → document_v2_in ms ≡ None
unfolding document_v2_in
without_chunks ms e_shape none = rw (e_shape, none) refl

pub without_dtype : (ms : Members) {shape : List ℕ} {chunks : List ℕ} → option_and_then numbers_of (get_member (codes "shape") ms) ≡ Some shape → option_and_then (list_of size_said) (get_member (codes "chunks") ms) ≡ Some chunks → option_and_then as_str (get_member (codes "dtype") ms) ≡ None → document_v2_in ms ≡ None
unfolding document_v2_in
without_dtype ms e_shape e_chunks none = rw (e_shape, e_chunks, none) refl

pub without_compressor : (ms : Members) {shape : List ℕ} {chunks : List ℕ} {dtype : List ℕ} → option_and_then numbers_of (get_member (codes "shape") ms) ≡ Some shape → option_and_then (list_of size_said) (get_member (codes "chunks") ms) ≡ Some chunks → option_and_then as_str (get_member (codes "dtype") ms) ≡ Some dtype → get_member (codes "compressor") ms ≡ None → document_v2_in ms ≡ None
unfolding document_v2_in
without_compressor ms e_shape e_chunks e_dtype none = rw (e_shape, e_chunks, e_dtype, none) refl

pub without_fill_value : (ms : Members) {shape : List ℕ} {chunks : List ℕ} {dtype : List ℕ} {compressor : Data} → option_and_then numbers_of (get_member (codes "shape") ms) ≡ Some shape → option_and_then (list_of size_said) (get_member (codes "chunks") ms) ≡ Some chunks → option_and_then as_str (get_member (codes "dtype") ms) ≡ Some dtype → get_member (codes "compressor") ms ≡ Some compressor → get_member (codes "fill_value") ms ≡ None → document_v2_in ms ≡ None
unfolding document_v2_in
without_fill_value ms e_shape e_chunks e_dtype e_compressor none = rw (e_shape, e_chunks, e_dtype, e_compressor, none) refl

pub without_order : (ms : Members) {shape : List ℕ} {chunks : List ℕ} {dtype : List ℕ} {compressor : Data} {fill_value : Data} → option_and_then numbers_of (get_member (codes "shape") ms) ≡ Some shape → option_and_then (list_of size_said) (get_member (codes "chunks") ms) ≡ Some chunks → option_and_then as_str (get_member (codes "dtype") ms) ≡ Some dtype → get_member (codes "compressor") ms ≡ Some compressor → get_member (codes "fill_value") ms ≡ Some fill_value → option_and_then chunk_order_of (get_member (codes "order") ms) ≡ None → document_v2_in ms ≡ None
unfolding document_v2_in
without_order ms e_shape e_chunks e_dtype e_compressor e_fill_value none = rw (e_shape, e_chunks, e_dtype, e_compressor, e_fill_value, none) refl

pub without_filters : (ms : Members) {shape : List ℕ} {chunks : List ℕ} {dtype : List ℕ} {compressor : Data} {fill_value : Data} {order : ArrayMetadataV2Order} → option_and_then numbers_of (get_member (codes "shape") ms) ≡ Some shape → option_and_then (list_of size_said) (get_member (codes "chunks") ms) ≡ Some chunks → option_and_then as_str (get_member (codes "dtype") ms) ≡ Some dtype → get_member (codes "compressor") ms ≡ Some compressor → get_member (codes "fill_value") ms ≡ Some fill_value → option_and_then chunk_order_of (get_member (codes "order") ms) ≡ Some order → get_member (codes "filters") ms ≡ None → document_v2_in ms ≡ None
unfolding document_v2_in
without_filters ms e_shape e_chunks e_dtype e_compressor e_fill_value e_order none = rw (e_shape, e_chunks, e_dtype, e_compressor, e_fill_value, e_order, none) refl

pub without_dimension_separator : (ms : Members) {shape : List ℕ} {chunks : List ℕ} {dtype : List ℕ} {compressor : Data} {fill_value : Data} {order : ArrayMetadataV2Order} {filters : Data} → option_and_then numbers_of (get_member (codes "shape") ms) ≡ Some shape → option_and_then (list_of size_said) (get_member (codes "chunks") ms) ≡ Some chunks → option_and_then as_str (get_member (codes "dtype") ms) ≡ Some dtype → get_member (codes "compressor") ms ≡ Some compressor → get_member (codes "fill_value") ms ≡ Some fill_value → option_and_then chunk_order_of (get_member (codes "order") ms) ≡ Some order → get_member (codes "filters") ms ≡ Some filters → dimension_separator_in (get_member (codes "dimension_separator") ms) ≡ None → document_v2_in ms ≡ None
unfolding document_v2_in
without_dimension_separator ms e_shape e_chunks e_dtype e_compressor e_fill_value e_order e_filters none = rw (e_shape, e_chunks, e_dtype, e_compressor, e_fill_value, e_order, e_filters, none) refl

pub without_attributes : (ms : Members) {shape : List ℕ} {chunks : List ℕ} {dtype : List ℕ} {compressor : Data} {fill_value : Data} {order : ArrayMetadataV2Order} {filters : Data} {dimension_separator : ChunkKeySeparator} → option_and_then numbers_of (get_member (codes "shape") ms) ≡ Some shape → option_and_then (list_of size_said) (get_member (codes "chunks") ms) ≡ Some chunks → option_and_then as_str (get_member (codes "dtype") ms) ≡ Some dtype → get_member (codes "compressor") ms ≡ Some compressor → get_member (codes "fill_value") ms ≡ Some fill_value → option_and_then chunk_order_of (get_member (codes "order") ms) ≡ Some order → get_member (codes "filters") ms ≡ Some filters → dimension_separator_in (get_member (codes "dimension_separator") ms) ≡ Some dimension_separator → members_in (get_member (codes "attributes") ms) ≡ None → document_v2_in ms ≡ None
unfolding document_v2_in
without_attributes ms e_shape e_chunks e_dtype e_compressor e_fill_value e_order e_filters e_dimension_separator none = rw (e_shape, e_chunks, e_dtype, e_compressor, e_fill_value, e_order, e_filters, e_dimension_separator, none) refl
