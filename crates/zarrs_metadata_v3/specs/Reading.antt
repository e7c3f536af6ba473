-- The members of a document, as the code holds them while it reads them.
use Rattle.std.specs.Prelude.{◌≡◌, codes, option_map}
use Rattle.serde_json.specs.Data.{Members}
use Rattle.serde_json.specs.Find.{get_member}
use Rattle.serde_json.specs.View.{view}
use Rattle.zarrs_metadata_v3.specs.declared.reading.Parts.{Parts}

-- these are the members of a document, each under its name
pub record AreParts (ms : Members) (p : Parts) : Type 0 where
  pub zarr_format : option_map view p.zarr_format ≡ get_member (codes "zarr_format") ms
  pub node_type : option_map view p.node_type ≡ get_member (codes "node_type") ms
  pub shape : option_map view p.shape ≡ get_member (codes "shape") ms
  pub data_type : option_map view p.data_type ≡ get_member (codes "data_type") ms
  pub chunk_grid : option_map view p.chunk_grid ≡ get_member (codes "chunk_grid") ms
  pub chunk_key_encoding : option_map view p.chunk_key_encoding ≡ get_member (codes "chunk_key_encoding") ms
  pub fill_value : option_map view p.fill_value ≡ get_member (codes "fill_value") ms
  pub codecs : option_map view p.codecs ≡ get_member (codes "codecs") ms
  pub attributes : option_map view p.attributes ≡ get_member (codes "attributes") ms
  pub storage_transformers : option_map view p.storage_transformers ≡ get_member (codes "storage_transformers") ms
  pub dimension_names : option_map view p.dimension_names ≡ get_member (codes "dimension_names") ms
