-- A V2 document as a V3 document, and why one has none.
use Rattle.std.specs.Prelude.{ℕ, zero, suc, length, List, [], ◌∷◌, ◌&&◌, Bool, false, not, codes, if◌then◌else◌}
use Rattle.std.specs.Prelude.{Option, Some, None, option_map, unwrap_or, is_some, Result, Ok, Err}
use Rattle.serde_json.specs.Data.{Data, null, boolean, number, string, array, object, no_items, item}
use Rattle.serde_json.specs.Find.{get_member, as_null, as_object}
use Rattle.zarrs_metadata_parts.specs.Members.{has_only}
use Rattle.zarrs_metadata_parts.specs.Lists.{numbers_data}
use Rattle.zarrs_metadata_parts.specs.Extension.{ExtensionData, named, extension_with_member}
use Rattle.zarrs_metadata_parts.specs.Separator.{separator_data}
use Rattle.zarrs_metadata_v3.specs.Members.{reads_as_text}
use Rattle.zarrs_metadata_v3.specs.Document.{DocumentData}
use Rattle.zarrs_metadata_v2.specs.Document.{DocumentV2Data}
use Rattle.zarrs_metadata_v2.specs.declared.order.ArrayMetadataV2Order.{ArrayMetadataV2Order}
use Rattle.zarrs_metadata_v2.specs.declared.order.ArrayMetadataV2Order.TheVariants.{C, F}
use Rattle.zarrs_metadata_parts.specs.declared.types_v2.KindV2.{KindV2}
use Rattle.zarrs_metadata_parts.specs.declared.types_v2.EndianV2.{EndianV2}
use Rattle.zarrs_metadata_parts.specs.declared.types_v2.EndianV2.TheVariants.{Little, Big}
use Rattle.zarrs_metadata_parts.specs.declared.types_v2.TypeV2.{TypeV2}
pub use Rattle.zarrs_metadata_parts.specs.TypesV2.{type_with, wide_kind, narrow_kind, type_v2, type_name_v3, is_text_kind}
pub use Rattle.zarrs_metadata_parts.specs.TypesV2.{bool_fill, is_number_within, is_up_to, number_fill, text_fill, fill_v3}

-- why a V2 document has no V3 document: its type has no name there; its fill value is none of the type; its compressor and filters have no codec there
pub data ConversionRefusal : Type 0 where
  no_type : List ℕ → ConversionRefusal
  no_fill_value : List ℕ → Data → ConversionRefusal
  no_codecs : ConversionRefusal

-- ---- compressors, filters and codecs

-- `{"id": "vlen-utf8"}`
abbrev pub is_vlen_utf8 : Data → Bool
is_vlen_utf8 d =
    unwrap_or (option_map (λ ms. reads_as_text (codes "vlen-utf8") (get_member (codes "id") ms) && has_only (codes "id" ∷ []) ms) (as_object d)) false

-- the filters that cells of this kind need: of texts the one of texts, else none, which null says too
abbrev pub has_filters_of : KindV2 → Data → Bool
has_filters_of k null = not (is_text_kind k)
has_filters_of k (array no_items) = not (is_text_kind k)
has_filters_of k (array (item d no_items)) = is_text_kind k && is_vlen_utf8 d
has_filters_of k (array (item d (item e ds))) = false
has_filters_of k (boolean b) = false
has_filters_of k (number n) = false
has_filters_of k (string text) = false
has_filters_of k (object ms) = false

-- no compressor, and the filters of the kind
abbrev pub is_uncompressed : KindV2 → DocumentV2Data → Bool
is_uncompressed k m = is_some (as_null m.compressor) && has_filters_of k m.filters

abbrev pub endian_name_v2 : EndianV2 → List ℕ
endian_name_v2 Little = codes "little"
endian_name_v2 Big = codes "big"

abbrev pub bytes_codec : Option EndianV2 → ExtensionData
bytes_codec None = named (codes "bytes")
bytes_codec (Some e) = extension_with_member (codes "bytes") (codes "endian") (string (endian_name_v2 e))

-- the codec that makes bytes of the cells
abbrev pub cells_codec : TypeV2 → ExtensionData
cells_codec t = if is_text_kind t.kind then named (codes "vlen-utf8") else bytes_codec t.endian

-- the numbers below this one, the greatest first
abbrev pub count_down : ℕ → List ℕ
count_down zero = []
count_down (suc n) = n ∷ count_down n

-- order F is a transposition that turns the dimensions around
abbrev pub order_codecs : ArrayMetadataV2Order → ℕ → List ExtensionData → List ExtensionData
order_codecs C dimensions codecs = codecs
order_codecs F dimensions codecs = extension_with_member (codes "transpose") (codes "order") (numbers_data (count_down dimensions)) ∷ codecs

-- ---- documents

-- the V3 document of a V2 document of this type and this fill value; order F is a `transpose` that turns the dimensions around
abbrev pub converted : DocumentV2Data → TypeV2 → Data → DocumentData
converted m t fill = record {
  shape = m.shape;
  data_type = named (type_name_v3 t.kind);
  chunk_grid = extension_with_member (codes "regular") (codes "chunk_shape") (numbers_data m.chunks);
  chunk_key_encoding = extension_with_member (codes "v2") (codes "separator") (separator_data m.dimension_separator);
  fill_value = fill;
  codecs = order_codecs m.order (length m.shape) (cells_codec t ∷ []);
  attributes = m.attributes;
  storage_transformers = [];
  dimension_names = None;
  additional_fields = [];
}

abbrev pub converted_with_fill : DocumentV2Data → TypeV2 → Option Data → Result DocumentData ConversionRefusal
converted_with_fill m t None = Err (no_fill_value m.dtype m.fill_value)
converted_with_fill m t (Some fill) = if is_uncompressed t.kind m then Ok (converted m t fill) else Err no_codecs

abbrev pub converted_with_type : DocumentV2Data → Option TypeV2 → Result DocumentData ConversionRefusal
converted_with_type m None = Err (no_type m.dtype)
converted_with_type m (Some t) = converted_with_fill m t (fill_v3 t.kind m.fill_value)

-- the V3 document of a V2 document, or the first refusal: data type, fill value, codecs
unfoldable pub to_v3 : DocumentV2Data → Result DocumentData ConversionRefusal
to_v3 m = converted_with_type m (type_v2 m.dtype)
