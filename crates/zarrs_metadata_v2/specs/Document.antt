-- The V2 document of an array (Zarr V2 storage specification, arrays and attributes), and the JSON values that read as one.
use Rattle.std.specs.Prelude.{◌≡◌, ◌≤◌, ℕ, List, [], ◌∷◌, false, bytes_eq, codes, if◌then◌else◌, Option, Some, None, option_and_then}
use Rattle.std.specs.Str.{IsUtf8}
use Rattle.json.specs.Lex.{tokens}
use Rattle.json.specs.Layout.{pretty}
use Rattle.serde_json.specs.Data.{Data, depth, string, object, Members, no_members}
use Rattle.serde_json.specs.Find.{get_member, as_str, as_object}
use Rattle.serde_json.specs.Written.{has_float, IsInOrder}
use Rattle.serde_json.specs.Read.{read, max_depth}
use Rattle.zarrs_metadata_parts.specs.Lists.{list_of, numbers_of, numbers_data, number_data, size_said}
use Rattle.zarrs_metadata_parts.specs.Extension.{◌>>=◌}
use Rattle.zarrs_metadata_parts.specs.Separator.{separator_of, separator_data}
use Rattle.zarrs_metadata_parts.specs.declared.separators.ChunkKeySeparator.{ChunkKeySeparator}
use Rattle.zarrs_metadata_parts.specs.declared.separators.ChunkKeySeparator.TheVariants.{Dot}
use Rattle.zarrs_metadata_v3.specs.Members.{value_said, reads_as_number, members_in, object_data, put_all}
use Rattle.zarrs_metadata_v2.specs.declared.order.ArrayMetadataV2Order.{ArrayMetadataV2Order}
use Rattle.zarrs_metadata_v2.specs.declared.order.ArrayMetadataV2Order.TheVariants.{C, F}

-- the metadata of an array; compressor, fill value and filters are kept as they are
pub record DocumentV2Data : Type 0 where
  pub shape : List ℕ
  pub chunks : List ℕ
  pub dtype : List ℕ
  pub compressor : Data
  pub fill_value : Data
  pub order : ArrayMetadataV2Order
  pub filters : Data
  pub dimension_separator : ChunkKeySeparator
  pub attributes : Members

-- the metadata of these parts, in order C, with `.` in its keys and without attributes
abbrev pub plain_document_v2 : List ℕ → List ℕ → List ℕ → Data → Data → Data → DocumentV2Data
plain_document_v2 shape chunks dtype fill_value compressor filters = record {
  shape = shape;
  chunks = chunks;
  dtype = dtype;
  compressor = compressor;
  fill_value = fill_value;
  order = C;
  filters = filters;
  dimension_separator = Dot;
  attributes = no_members;
}

abbrev pub without_attributes : DocumentV2Data → DocumentV2Data
without_attributes m = record m { attributes = no_members }

-- ---- read

abbrev pub order_named : List ℕ → Option ArrayMetadataV2Order
order_named text = if bytes_eq text (codes "C") then Some C else (if bytes_eq text (codes "F") then Some F else None)

-- the order that a JSON value says: the text `C` or `F`
abbrev pub chunk_order_of : Data → Option ArrayMetadataV2Order
chunk_order_of d = option_and_then order_named (as_str d)

-- an absent separator is `.`
abbrev pub dimension_separator_in : Option Data → Option ChunkKeySeparator
dimension_separator_in None = Some Dot
dimension_separator_in (Some d) = separator_of d

-- the document that members say: each reads, under its own name; other members are ignored
unfoldable pub document_v2_in : Members → Option DocumentV2Data
document_v2_in ms = do
  shape ← option_and_then numbers_of (get_member (codes "shape") ms)
  chunks ← option_and_then (list_of size_said) (get_member (codes "chunks") ms)
  dtype ← option_and_then as_str (get_member (codes "dtype") ms)
  compressor ← get_member (codes "compressor") ms
  fill_value ← get_member (codes "fill_value") ms
  order ← option_and_then chunk_order_of (get_member (codes "order") ms)
  filters ← get_member (codes "filters") ms
  separator ← dimension_separator_in (get_member (codes "dimension_separator") ms)
  attributes ← members_in (get_member (codes "attributes") ms)
  Some (record {
    shape = shape;
    chunks = chunks;
    dtype = dtype;
    compressor = compressor;
    fill_value = fill_value;
    order = order;
    filters = filters;
    dimension_separator = separator;
    attributes = attributes;
  })

-- the document that members of this version read as
abbrev pub document_v2_from : Members → Option DocumentV2Data
document_v2_from ms = if reads_as_number 2 (get_member (codes "zarr_format") ms) then document_v2_in ms else None

-- the document that a JSON value reads as
abbrev pub document_v2_of : Data → Option DocumentV2Data
document_v2_of d = option_and_then document_v2_from (as_object d)

-- the same for a value without left-out numbers: numbers that are not an integer of 64 bits
abbrev pub plain_document_v2_of : Data → Option DocumentV2Data
plain_document_v2_of d = if has_float d then None else document_v2_of d

-- the document that the bytes of `.zarray` read as
abbrev pub document_v2_said : List ℕ → Option DocumentV2Data
document_v2_said bytes = option_and_then plain_document_v2_of (value_said bytes)

-- the members of an object without left-out numbers
abbrev pub plain_members_of : Data → Option Members
plain_members_of d = if has_float d then None else as_object d

-- the attributes that the bytes of `.zattrs` read as
abbrev pub attributes_said : List ℕ → Option Members
attributes_said bytes = option_and_then plain_members_of (value_said bytes)

-- ---- written

abbrev pub order_data : ArrayMetadataV2Order → Data
order_data C = string (codes "C")
order_data F = string (codes "F")

-- the members of a document
abbrev pub document_v2_members : Option Data → DocumentV2Data → List (List ℕ × Option Data)
document_v2_members attributes m =
    (codes "attributes", attributes)
    ∷ (codes "dimension_separator", Some (separator_data m.dimension_separator))
    ∷ (codes "filters", Some m.filters)
    ∷ (codes "order", Some (order_data m.order))
    ∷ (codes "fill_value", Some m.fill_value)
    ∷ (codes "compressor", Some m.compressor)
    ∷ (codes "dtype", Some (string m.dtype))
    ∷ (codes "chunks", Some (numbers_data m.chunks))
    ∷ (codes "shape", Some (numbers_data m.shape))
    ∷ (codes "zarr_format", Some (number_data 2))
    ∷ []

unfoldable pub data_v2_with : Option Data → DocumentV2Data → Data
data_v2_with attributes m = object (put_all (document_v2_members attributes m) no_members)

-- the JSON value of a document; empty attributes are not written
abbrev pub data_of_v2 : DocumentV2Data → Data
data_of_v2 m = data_v2_with (object_data m.attributes) m

-- the pretty text of a document: its tokens are laid out over indented lines, its members stand in the order of the
-- tree, it reads as the tree, unless that nests too deep, and as the document, unless the tree has a left-out number
pub record IsDocumentV2Text (m : DocumentV2Data) (bytes : List ℕ) : Type 0 where
  -- a line for each item and member, two spaces deeper for each bracket
  pub layout : bytes ≡ pretty (tokens bytes)
  pub utf8 : IsUtf8 bytes
  -- each member and item of the tree once and in order, its integers in decimal
  pub order : IsInOrder bytes (data_of_v2 m)
  pub reads_tree : depth (data_of_v2 m) ≤ max_depth → read bytes ≡ Some (data_of_v2 m)
  pub reads_back : depth (data_of_v2 m) ≤ max_depth → has_float (data_of_v2 m) ≡ false → document_v2_said bytes ≡ Some m

-- the pretty text of the attributes: its tokens are laid out over indented lines, the attributes stand in their order,
-- it reads as their tree, unless that nests too deep, and as the attributes, unless the tree has a left-out number
pub record IsAttributesText (ms : Members) (bytes : List ℕ) : Type 0 where
  -- a line for each item and member, two spaces deeper for each bracket
  pub layout : bytes ≡ pretty (tokens bytes)
  pub utf8 : IsUtf8 bytes
  -- each attribute once and in order, its integers in decimal
  pub order : IsInOrder bytes (object ms)
  pub reads_tree : depth (object ms) ≤ max_depth → read bytes ≡ Some (object ms)
  pub reads_back : depth (object ms) ≤ max_depth → has_float (object ms) ≡ false → attributes_said bytes ≡ Some ms
