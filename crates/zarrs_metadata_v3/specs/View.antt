-- What the types of this crate stand for.
use Rattle.std.specs.Prelude.{ℕ, List, map, Option, option_map, String, string_bytes}
use Rattle.std.specs.declared.alloc.Global.{Global}
use Rattle.serde_json.specs.View.{view, members_view}
use Rattle.zarrs_metadata_parts.specs.Extension.{extension_view}
use Rattle.zarrs_metadata_parts.specs.FillValue.{fill_data}
use Rattle.zarrs_metadata_v3.specs.Fields.{FieldData}
use Rattle.zarrs_metadata_v3.specs.Document.{DocumentData}
use Rattle.zarrs_metadata_v3.specs.declared.fields.AdditionalFieldV3.{AdditionalFieldV3}
use Rattle.zarrs_metadata_v3.specs.declared.document.ArrayMetadataV3.{ArrayMetadataV3}

-- the field that a value of this type is
abbrev pub field_view : AdditionalFieldV3 → FieldData
field_view f = record { value = view f.value; must_understand = f.must_understand }

-- the fields by name, in the order of their names
abbrev pub fields_view : List (String Global × AdditionalFieldV3) → List (List ℕ × FieldData)
fields_view fs = map (λ f. (string_bytes f.0, field_view f.1)) fs

-- the name of a dimension, or none
abbrev pub name_view : Option (String Global) → Option (List ℕ)
name_view name = option_map string_bytes name

-- the document that a value of this type is
abbrev pub document_view : ArrayMetadataV3 → DocumentData
document_view m = record {
  shape = m.shape.items;
  data_type = extension_view m.data_type;
  chunk_grid = extension_view m.chunk_grid;
  chunk_key_encoding = extension_view m.chunk_key_encoding;
  fill_value = fill_data m.fill_value;
  codecs = map extension_view m.codecs.items;
  attributes = members_view m.attributes.entries;
  storage_transformers = map extension_view m.storage_transformers.items;
  dimension_names = option_map (λ names. map name_view names.items) m.dimension_names;
  additional_fields = fields_view m.additional_fields.entries;
}
