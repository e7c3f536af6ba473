-- What the cells of a data type say.
use Rattle.std.specs.Prelude.{ℕ, Option, Some, None, option_and_then, option_map}
use Rattle.zarrs_data_type.specs.Kind.{Kind, element_size}
use Rattle.zarrs_data_type.specs.Kind as ty
use Rattle.zarr_cells.specs.declared.form.Form.{Form}
use Rattle.zarr_cells.specs.declared.form.Form.TheVariants.{Bool as BoolForm, Unsigned, Signed, Float}
use Rattle.zarr_cells.specs.declared.form.Width.{Width}
use Rattle.zarr_cells.specs.declared.lines.Rows.{Rows}

-- whole numbers whose bits are those of floats, if a width of these is given
abbrev pub float_or_unsigned : Option Width → Form
float_or_unsigned None = Unsigned
float_or_unsigned (Some width) = Float width

-- what the cells say, if they are numbers or bools
abbrev pub form_of : Kind → Option Width → Option Form
form_of ty.bool floats = Some BoolForm
form_of ty.int8 floats = Some Signed
form_of ty.int16 floats = Some Signed
form_of ty.int32 floats = Some Signed
form_of ty.int64 floats = Some Signed
form_of ty.uint8 floats = Some Unsigned
form_of ty.uint16 floats = Some Unsigned
form_of ty.uint32 floats = Some (float_or_unsigned floats)
form_of ty.uint64 floats = Some (float_or_unsigned floats)
form_of _ floats = None

-- rows of so many cells of the type
abbrev pub rows_with : ℕ → Form → ℕ → Rows
rows_with width form size = record { form = form; size = size; width = width }

abbrev pub rows_of : Kind → Option Width → ℕ → Option Rows
rows_of kind floats width = option_and_then (λ form. option_map (rows_with width form) (element_size kind)) (form_of kind floats)
