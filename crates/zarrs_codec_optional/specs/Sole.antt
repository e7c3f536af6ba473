-- Lists of one codec in the configuration of another.
use Rattle.std.specs.Prelude.{Option}
use Rattle.serde_json.specs.Data.{Data, array, no_items, item}
use Rattle.serde_json.specs.Find.{as_array}
use Rattle.zarrs_metadata_parts.specs.Extension.{ExtensionData, extension_of, extension_data, ◌>>=◌}
use Rattle.zarrs_metadata_parts.specs.Lists.{sole_item}

-- the only extension point of a list
abbrev pub sole_codec : Option Data → Option ExtensionData
sole_codec list = do
  value ← list
  items ← as_array value
  codec ← sole_item items
  extension_of codec

-- the list of this one extension point
abbrev pub list_of_one : ExtensionData → Data
list_of_one e = array (item (extension_data e) no_items)
