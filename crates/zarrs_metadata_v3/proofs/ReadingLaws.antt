-- A document is none if one of its members does not read.
use Rattle.std.proofs.Common.{◌≡◌, ℕ, List, Some, None, option_and_then, codes, refl}
use Rattle.serde_json.specs.Data.{Data, Members}
use Rattle.serde_json.specs.Find.{get_member}
use Rattle.zarrs_metadata_parts.specs.Lists.{numbers_of}
use Rattle.zarrs_metadata_parts.specs.Extension.{ExtensionData, extension_of}
use Rattle.zarrs_metadata_v3.specs.Members.{list_in, members_in}
use Rattle.zarrs_metadata_v3.specs.Document.{document_in, transformers_in, names_in}

pub without_shape : (ms : Members) → option_and_then numbers_of (get_member (codes "shape") ms) ≡ None → document_in ms ≡ None
unfolding document_in
without_shape ms none = rw (none) refl

pub without_data_type : (ms : Members) {shape : List ℕ} → option_and_then numbers_of (get_member (codes "shape") ms) ≡ Some shape → option_and_then extension_of (get_member (codes "data_type") ms) ≡ None → document_in ms ≡ None
unfolding document_in
without_data_type ms e_shape none = rw (e_shape, none) refl

pub without_chunk_grid : (ms : Members) {shape : List ℕ} {data_type : ExtensionData} → option_and_then numbers_of (get_member (codes "shape") ms) ≡ Some shape → option_and_then extension_of (get_member (codes "data_type") ms) ≡ Some data_type → option_and_then extension_of (get_member (codes "chunk_grid") ms) ≡ None → document_in ms ≡ None
unfolding document_in
without_chunk_grid ms e_shape e_data_type none = rw (e_shape, e_data_type, none) refl

pub without_chunk_key_encoding : (ms : Members) {shape : List ℕ} {data_type : ExtensionData} {chunk_grid : ExtensionData} → option_and_then numbers_of (get_member (codes "shape") ms) ≡ Some shape → option_and_then extension_of (get_member (codes "data_type") ms) ≡ Some data_type → option_and_then extension_of (get_member (codes "chunk_grid") ms) ≡ Some chunk_grid → option_and_then extension_of (get_member (codes "chunk_key_encoding") ms) ≡ None → document_in ms ≡ None
unfolding document_in
without_chunk_key_encoding ms e_shape e_data_type e_chunk_grid none = rw (e_shape, e_data_type, e_chunk_grid, none) refl

pub without_fill_value : (ms : Members) {shape : List ℕ} {data_type : ExtensionData} {chunk_grid : ExtensionData} {chunk_key_encoding : ExtensionData} → option_and_then numbers_of (get_member (codes "shape") ms) ≡ Some shape → option_and_then extension_of (get_member (codes "data_type") ms) ≡ Some data_type → option_and_then extension_of (get_member (codes "chunk_grid") ms) ≡ Some chunk_grid → option_and_then extension_of (get_member (codes "chunk_key_encoding") ms) ≡ Some chunk_key_encoding → get_member (codes "fill_value") ms ≡ None → document_in ms ≡ None
unfolding document_in
without_fill_value ms e_shape e_data_type e_chunk_grid e_chunk_key_encoding none = rw (e_shape, e_data_type, e_chunk_grid, e_chunk_key_encoding, none) refl

pub without_codecs : (ms : Members) {shape : List ℕ} {data_type : ExtensionData} {chunk_grid : ExtensionData} {chunk_key_encoding : ExtensionData} {fill_value : Data} → option_and_then numbers_of (get_member (codes "shape") ms) ≡ Some shape → option_and_then extension_of (get_member (codes "data_type") ms) ≡ Some data_type → option_and_then extension_of (get_member (codes "chunk_grid") ms) ≡ Some chunk_grid → option_and_then extension_of (get_member (codes "chunk_key_encoding") ms) ≡ Some chunk_key_encoding → get_member (codes "fill_value") ms ≡ Some fill_value → list_in extension_of (get_member (codes "codecs") ms) ≡ None → document_in ms ≡ None
unfolding document_in
without_codecs ms e_shape e_data_type e_chunk_grid e_chunk_key_encoding e_fill_value none = rw (e_shape, e_data_type, e_chunk_grid, e_chunk_key_encoding, e_fill_value, none) refl

pub without_attributes : (ms : Members) {shape : List ℕ} {data_type : ExtensionData} {chunk_grid : ExtensionData} {chunk_key_encoding : ExtensionData} {fill_value : Data} {codecs : List ExtensionData} → option_and_then numbers_of (get_member (codes "shape") ms) ≡ Some shape → option_and_then extension_of (get_member (codes "data_type") ms) ≡ Some data_type → option_and_then extension_of (get_member (codes "chunk_grid") ms) ≡ Some chunk_grid → option_and_then extension_of (get_member (codes "chunk_key_encoding") ms) ≡ Some chunk_key_encoding → get_member (codes "fill_value") ms ≡ Some fill_value → list_in extension_of (get_member (codes "codecs") ms) ≡ Some codecs → members_in (get_member (codes "attributes") ms) ≡ None → document_in ms ≡ None
unfolding document_in
without_attributes ms e_shape e_data_type e_chunk_grid e_chunk_key_encoding e_fill_value e_codecs none = rw (e_shape, e_data_type, e_chunk_grid, e_chunk_key_encoding, e_fill_value, e_codecs, none) refl

pub without_storage_transformers : (ms : Members) {shape : List ℕ} {data_type : ExtensionData} {chunk_grid : ExtensionData} {chunk_key_encoding : ExtensionData} {fill_value : Data} {codecs : List ExtensionData} {attributes : Members} → option_and_then numbers_of (get_member (codes "shape") ms) ≡ Some shape → option_and_then extension_of (get_member (codes "data_type") ms) ≡ Some data_type → option_and_then extension_of (get_member (codes "chunk_grid") ms) ≡ Some chunk_grid → option_and_then extension_of (get_member (codes "chunk_key_encoding") ms) ≡ Some chunk_key_encoding → get_member (codes "fill_value") ms ≡ Some fill_value → list_in extension_of (get_member (codes "codecs") ms) ≡ Some codecs → members_in (get_member (codes "attributes") ms) ≡ Some attributes → transformers_in (get_member (codes "storage_transformers") ms) ≡ None → document_in ms ≡ None
unfolding document_in
without_storage_transformers ms e_shape e_data_type e_chunk_grid e_chunk_key_encoding e_fill_value e_codecs e_attributes none = rw (e_shape, e_data_type, e_chunk_grid, e_chunk_key_encoding, e_fill_value, e_codecs, e_attributes, none) refl

pub without_dimension_names : (ms : Members) {shape : List ℕ} {data_type : ExtensionData} {chunk_grid : ExtensionData} {chunk_key_encoding : ExtensionData} {fill_value : Data} {codecs : List ExtensionData} {attributes : Members} {storage_transformers : List ExtensionData} → option_and_then numbers_of (get_member (codes "shape") ms) ≡ Some shape → option_and_then extension_of (get_member (codes "data_type") ms) ≡ Some data_type → option_and_then extension_of (get_member (codes "chunk_grid") ms) ≡ Some chunk_grid → option_and_then extension_of (get_member (codes "chunk_key_encoding") ms) ≡ Some chunk_key_encoding → get_member (codes "fill_value") ms ≡ Some fill_value → list_in extension_of (get_member (codes "codecs") ms) ≡ Some codecs → members_in (get_member (codes "attributes") ms) ≡ Some attributes → transformers_in (get_member (codes "storage_transformers") ms) ≡ Some storage_transformers → names_in (get_member (codes "dimension_names") ms) ≡ None → document_in ms ≡ None
unfolding document_in
without_dimension_names ms e_shape e_data_type e_chunk_grid e_chunk_key_encoding e_fill_value e_codecs e_attributes e_storage_transformers none = rw (e_shape, e_data_type, e_chunk_grid, e_chunk_key_encoding, e_fill_value, e_codecs, e_attributes, e_storage_transformers, none) refl
