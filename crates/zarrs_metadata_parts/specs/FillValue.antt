-- What the fill value of metadata says.
use Rattle.std.specs.Prelude.{string_bytes}
use Rattle.serde_json.specs.Data.{Data, null, boolean, number, string, array, object}
use Rattle.serde_json.specs.View.{items_view, members_view, number_view}
use Rattle.zarrs_metadata_parts.specs.declared.fill_value.FillValueMetadata.{FillValueMetadata}
use Rattle.zarrs_metadata_parts.specs.declared.fill_value.FillValueMetadata.TheVariants as held

-- the JSON value that a fill value is
abbrev pub fill_data : FillValueMetadata → Data
fill_data held.Null = null
fill_data (held.Bool flag) = boolean flag
fill_data (held.Number n) = number (number_view n)
fill_data (held.String text) = string (string_bytes text)
fill_data (held.Array items) = array (items_view items.items)
fill_data (held.Object members) = object (members_view members.entries)
