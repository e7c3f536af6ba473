-- The V3 document of an array (Zarr V3 core specification, array metadata), and the JSON values that read as one.
use Rattle.std.specs.Prelude.{◌≡◌, ◌≤◌, ℕ, List, [], ◌∷◌, ◌&&◌, map, Bool, false, codes, if◌then◌else◌, Option}
use Rattle.std.specs.Prelude.{Some, None, option_map, option_and_then}
use Rattle.std.specs.Str.{IsUtf8}
use Rattle.json.specs.Lex.{tokens}
use Rattle.json.specs.Layout.{pretty}
use Rattle.serde_json.specs.Data.{Data, depth, null, boolean, number, string, array, object, Members, no_members}
use Rattle.serde_json.specs.Find.{get_member, as_object}
use Rattle.serde_json.specs.Written.{has_float, IsInOrder}
use Rattle.serde_json.specs.Read.{read, max_depth}
use Rattle.zarrs_metadata_parts.specs.Members.{besides}
use Rattle.zarrs_metadata_parts.specs.Lists.{all_of, list_data, numbers_of, numbers_data, number_data}
use Rattle.zarrs_metadata_parts.specs.Extension.{◌>>=◌, ExtensionData, normal, extension_of, extension_data, extension_with_member}
use Rattle.zarrs_metadata_v3.specs.Members.{value_said, reads_as_text, reads_as_number, list_in, members_in, object_data, put_all}
use Rattle.zarrs_metadata_v3.specs.Fields.{FieldData, fields_of, fields_data, normal_fields}

-- the metadata of an array; a dimension may have no name
pub record DocumentData : Type 0 where
  pub shape : List ℕ
  pub data_type : ExtensionData
  pub chunk_grid : ExtensionData
  pub chunk_key_encoding : ExtensionData
  pub fill_value : Data
  pub codecs : List ExtensionData
  pub attributes : Members
  pub storage_transformers : List ExtensionData
  pub dimension_names : Option (List (Option (List ℕ)))
  pub additional_fields : List (List ℕ × FieldData)

-- the name and the configuration of `default` keys with `/`
abbrev pub default_keys : ExtensionData
default_keys = extension_with_member (codes "default") (codes "separator") (string (codes "/"))

-- the metadata of these parts with `default` keys, and nothing that may be absent
abbrev pub plain_document : List ℕ → ExtensionData → ExtensionData → Data → List ExtensionData → DocumentData
plain_document shape chunk_grid data_type fill_value codecs = record {
  shape = shape;
  data_type = data_type;
  chunk_grid = chunk_grid;
  chunk_key_encoding = default_keys;
  fill_value = fill_value;
  codecs = codecs;
  attributes = no_members;
  storage_transformers = [];
  dimension_names = None;
  additional_fields = [];
}

-- ---- read

-- the names of the members that a document has
abbrev pub document_names : List (List ℕ)
document_names =
    codes "dimension_names" ∷ codes "storage_transformers" ∷ codes "attributes" ∷ codes "codecs" ∷ codes "fill_value"
    ∷ codes "chunk_key_encoding" ∷ codes "chunk_grid" ∷ codes "data_type" ∷ codes "shape" ∷ codes "node_type" ∷ codes "zarr_format" ∷ []

-- a text, or null for a dimension without a name
abbrev pub dimension_name_of : Data → Option (Option (List ℕ))
dimension_name_of null = Some None
dimension_name_of (string text) = Some (Some text)
dimension_name_of (boolean b) = None
dimension_name_of (number n) = None
dimension_name_of (array ds) = None
dimension_name_of (object ms) = None

-- absent transformers are none
abbrev pub transformers_in : Option Data → Option (List ExtensionData)
transformers_in None = Some []
transformers_in (Some d) = list_in extension_of (Some d)

-- null counts as absent
abbrev pub names_in : Option Data → Option (Option (List (Option (List ℕ))))
names_in None = Some None
names_in (Some null) = Some None
names_in (Some (array ds)) = option_map Some (all_of dimension_name_of ds)
names_in (Some (boolean b)) = None
names_in (Some (number n)) = None
names_in (Some (string text)) = None
names_in (Some (object ms)) = None

-- the members are those of a V3 array
abbrev pub is_array : Members → Bool
is_array ms = reads_as_number 3 (get_member (codes "zarr_format") ms) && reads_as_text (codes "array") (get_member (codes "node_type") ms)

-- the document that the members of an array say: each reads, under its own name, and what has another name is a field
unfoldable pub document_in : Members → Option DocumentData
document_in ms = do
  shape ← option_and_then numbers_of (get_member (codes "shape") ms)
  data_type ← option_and_then extension_of (get_member (codes "data_type") ms)
  chunk_grid ← option_and_then extension_of (get_member (codes "chunk_grid") ms)
  chunk_key_encoding ← option_and_then extension_of (get_member (codes "chunk_key_encoding") ms)
  fill_value ← get_member (codes "fill_value") ms
  codecs ← list_in extension_of (get_member (codes "codecs") ms)
  attributes ← members_in (get_member (codes "attributes") ms)
  storage_transformers ← transformers_in (get_member (codes "storage_transformers") ms)
  dimension_names ← names_in (get_member (codes "dimension_names") ms)
  Some (record {
    shape = shape;
    data_type = data_type;
    chunk_grid = chunk_grid;
    chunk_key_encoding = chunk_key_encoding;
    fill_value = fill_value;
    codecs = codecs;
    attributes = attributes;
    storage_transformers = storage_transformers;
    dimension_names = dimension_names;
    additional_fields = fields_of (besides document_names ms);
  })

-- the document that members read as
abbrev pub document_from : Members → Option DocumentData
document_from ms = if is_array ms then document_in ms else None

-- that a JSON value reads as
abbrev pub document_of : Data → Option DocumentData
document_of d = option_and_then document_from (as_object d)

-- the same for a value without left-out numbers: numbers that are not an integer of 64 bits
abbrev pub plain_document_of : Data → Option DocumentData
plain_document_of d = if has_float d then None else document_of d

-- the document that bytes read as
unfoldable pub document_said : List ℕ → Option DocumentData
document_said bytes = option_and_then plain_document_of (value_said bytes)

-- ---- written

abbrev pub dimension_name_data : Option (List ℕ) → Data
dimension_name_data None = null
dimension_name_data (Some text) = string text

abbrev pub transformers_data : List ExtensionData → Option Data
transformers_data [] = None
transformers_data (e ∷ es) = Some (list_data extension_data (e ∷ es))

-- the members of a document; empty attributes, empty transformers and absent names are not written
abbrev pub document_members : DocumentData → List (List ℕ × Option Data)
document_members m =
    (codes "dimension_names", option_map (list_data dimension_name_data) m.dimension_names)
    ∷ (codes "storage_transformers", transformers_data m.storage_transformers)
    ∷ (codes "attributes", object_data m.attributes)
    ∷ (codes "codecs", Some (list_data extension_data m.codecs))
    ∷ (codes "fill_value", Some m.fill_value)
    ∷ (codes "chunk_key_encoding", Some (extension_data m.chunk_key_encoding))
    ∷ (codes "chunk_grid", Some (extension_data m.chunk_grid))
    ∷ (codes "data_type", Some (extension_data m.data_type))
    ∷ (codes "shape", Some (numbers_data m.shape))
    ∷ (codes "node_type", Some (string (codes "array")))
    ∷ (codes "zarr_format", Some (number_data 3))
    ∷ []

-- the JSON value of a document: a field under one of its own names is not written
unfoldable pub data_of_document : DocumentData → Data
data_of_document m = object (put_all (document_members m) (besides document_names (fields_data m.additional_fields)))

-- an empty configuration counts as none
abbrev pub without_empty_configurations : DocumentData → DocumentData
without_empty_configurations m = record m {
  data_type = normal m.data_type;
  chunk_grid = normal m.chunk_grid;
  chunk_key_encoding = normal m.chunk_key_encoding;
  codecs = map normal m.codecs;
  storage_transformers = map normal m.storage_transformers;
}

-- a document as it is read again
abbrev pub normal_document : DocumentData → DocumentData
normal_document m = record (without_empty_configurations m) {
  additional_fields = normal_fields document_names m.additional_fields;
}

-- the pretty text of a document: its tokens are laid out over indented lines, its members stand in the order of the
-- tree, it reads as the tree, unless that nests too deep, and as the document, unless the tree has a left-out number
pub record IsDocumentText (m : DocumentData) (bytes : List ℕ) : Type 0 where
  -- a line for each item and member, two spaces deeper for each bracket
  pub layout : bytes ≡ pretty (tokens bytes)
  pub utf8 : IsUtf8 bytes
  -- each member and item of the tree once and in order, its integers in decimal
  pub order : IsInOrder bytes (data_of_document m)
  pub reads_tree : depth (data_of_document m) ≤ max_depth → read bytes ≡ Some (data_of_document m)
  pub reads_back : depth (data_of_document m) ≤ max_depth → has_float (data_of_document m) ≡ false → document_said bytes ≡ Some (normal_document m)
