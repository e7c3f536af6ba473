-- What the types of this crate stand for.
use Rattle.std.specs.Prelude.{◌≡◌, map, codes, option_map}
use Rattle.std.specs.Int.NonZero.{non_zero_u64_get}
use Rattle.serde_json.specs.Data.{Members}
use Rattle.serde_json.specs.Find.{get_member}
use Rattle.serde_json.specs.View.{view, members_view}
use Rattle.zarrs_metadata_parts.specs.FillValue.{fill_data}
use Rattle.zarrs_metadata_v2.specs.Document.{DocumentV2Data}
use Rattle.zarrs_metadata_v2.specs.declared.document.ArrayMetadataV2.{ArrayMetadataV2}
use Rattle.zarrs_metadata_v2.specs.declared.reading.Parts.{Parts}

-- the document that a value of this type is
abbrev pub document_v2_view : ArrayMetadataV2 → DocumentV2Data
document_v2_view m = record {
  shape = m.shape.items;
  chunks = map non_zero_u64_get m.chunks.items;
  dtype = m.dtype;
  compressor = view m.compressor;
  fill_value = fill_data m.fill_value;
  order = m.order;
  filters = view m.filters;
  dimension_separator = m.dimension_separator;
  attributes = members_view m.attributes.entries;
}

-- these are the members of a document, each under its name
pub record AreParts (ms : Members) (p : Parts) : Type 0 where
  pub zarr_format : option_map view p.zarr_format ≡ get_member (codes "zarr_format") ms
  pub shape : option_map view p.shape ≡ get_member (codes "shape") ms
  pub chunks : option_map view p.chunks ≡ get_member (codes "chunks") ms
  pub dtype : option_map view p.dtype ≡ get_member (codes "dtype") ms
  pub compressor : option_map view p.compressor ≡ get_member (codes "compressor") ms
  pub fill_value : option_map view p.fill_value ≡ get_member (codes "fill_value") ms
  pub order : option_map view p.order ≡ get_member (codes "order") ms
  pub filters : option_map view p.filters ≡ get_member (codes "filters") ms
  pub dimension_separator : option_map view p.dimension_separator ≡ get_member (codes "dimension_separator") ms
  pub attributes : option_map view p.attributes ≡ get_member (codes "attributes") ms
