-- What callers give for the data type, the fill value and the names of dimensions of a builder.
use Rattle.std.specs.Prelude.{◌≡◌, ℕ, List, Option, Some, Result, Ok, string_bytes, option_and_then}
use Rattle.std.specs.List.{AllZip}
use Rattle.std.specs.Iterator.{Drains}
use Rattle.serde_json.specs.Data.{Data, array}
use Rattle.serde_json.specs.View.{view, items_view}
use Rattle.serde_json.specs.declared.value.Value.{Value}
use Rattle.zarrs_metadata_parts.specs.Extension.{extension_view}
use Rattle.zarrs_metadata_parts.specs.FillValue.{fill_data}
use Rattle.zarrs_data_type.specs.FillMetadata.{fill_said}
use Rattle.zarrs_data_type.specs.Kind.{Kind, kind}
use Rattle.zarrs_data_type.specs.TypeMetadata.{kind_name, kind_of}
use Rattle.zarrs_options.specs.Given.{extension_of_text}
use Rattle.zarrs_options.specs.Refusals.{CreateRefusal, fill_value_metadata, said_or}
use Rattle.zarrs_builder.specs.declared.data_type.ArrayBuilderDataType.{ArrayBuilderDataType}
use Rattle.zarrs_builder.specs.declared.data_type.GivenType.{GivenType}
use Rattle.zarrs_builder.specs.declared.data_type.GivenType.TheVariants as given_type
use Rattle.zarrs_builder.specs.declared.fill_value.ArrayBuilderFillValue.{ArrayBuilderFillValue}
use Rattle.zarrs_builder.specs.declared.fill_value.GivenFill.{GivenFill}
use Rattle.zarrs_builder.specs.declared.fill_value.GivenFill.TheVariants as given_fill

-- ---- a data type

abbrev pub kind_given : GivenType → Option Kind
kind_given (given_type.DataType t) = Some (kind t)
kind_given (given_type.Metadata m) = kind_of (extension_view m)
kind_given (given_type.Text text) = option_and_then kind_of (extension_of_text (string_bytes text))

-- the data type that is given, if it is one
abbrev pub type_given : ArrayBuilderDataType → Option Kind
type_given t = kind_given t.0

-- ---- a fill value

-- the bytes of a cell, or what metadata says
pub data FillData : Type 0 where
  by_bytes : List ℕ → FillData
  by_metadata : Data → FillData

abbrev pub filling_given : GivenFill → FillData
filling_given (given_fill.FillValue f) = by_bytes f
filling_given (given_fill.Metadata m) = by_metadata (fill_data m)

-- the fill value that is given
abbrev pub fill_given : ArrayBuilderFillValue → FillData
fill_given f = filling_given f.0

-- the bytes of the fill value; those that are given as bytes may be no value of the type
abbrev pub fill_chosen : Kind → FillData → Result (List ℕ) CreateRefusal
fill_chosen k (by_bytes f) = Ok f
fill_chosen k (by_metadata d) = said_or (fill_value_metadata (kind_name k) d) (fill_said k d)

-- the field is metadata: a JSON value that a value converts to
abbrev pub SaysJson : (Value → Type 0) → ArrayBuilderFillValue → Type 0
SaysJson converts field = (value : Value) × converts value × (fill_given field ≡ by_metadata (view value))

-- the field is metadata: a list of JSON values that these convert to
pub record SaysList {T : Type 0} (converts : T → Value → Type 0) (items : List T) (field : ArrayBuilderFillValue) : Type 0 where
  pub values : List Value
  pub each : AllZip converts items values
  pub is : fill_given field ≡ by_metadata (array (items_view values))

-- ---- names of dimensions

-- a list of fields, one for each item that is drawn of an iterator
pub record AreGiven {I S D F : Type 0} (starts : I → S → Type 0) (steps : S → Option D → S → Type 0) (gives : D → F → Type 0)
    (source : I) (fields : List F) : Type 0 where
  pub iterator : S
  pub items : List D
  pub started : starts source iterator
  pub drained : Drains steps iterator items
  pub given : AllZip gives items fields
