-- What the refusals of lower layers become.
use Rattle.std.specs.Prelude.{ℕ, List, string_bytes}
use Rattle.serde_json.specs.Data.{Data}
use Rattle.serde_json.specs.View.{view}
use Rattle.zarrs_storage.specs.declared.error.StorageError.{StorageError}
use Rattle.zarrs_storage.specs.declared.error.StorageError.TheVariants as storage
use Rattle.zarrs_keys.specs.declared.error.NodePathError.{NodePathError}
use Rattle.zarrs_keys.specs.declared.error.NodePathError.TheVariants as path
use Rattle.zarrs_options.specs.declared.error.AdditionalFieldUnsupportedError.{AdditionalFieldUnsupportedError}
use Rattle.zarrs_options.specs.declared.error.ArrayCreateError.{ArrayCreateError}
use Rattle.zarrs_options.specs.declared.error.ArrayCreateError.TheVariants as create

-- a store's refusal, or out of memory
abbrev pub create_error_of_storage : StorageError → ArrayCreateError
create_error_of_storage storage.OutOfMemory = create.OutOfMemory
create_error_of_storage error = create.StorageError error

-- a path's refusal, or out of memory
abbrev pub create_error_of_path : NodePathError → ArrayCreateError
create_error_of_path path.OutOfMemory = create.OutOfMemory
create_error_of_path error = create.NodePathError error

-- the field that must be understood
abbrev pub name_of_field : AdditionalFieldUnsupportedError → List ℕ
name_of_field e = string_bytes e.name

abbrev pub value_of_field : AdditionalFieldUnsupportedError → Data
value_of_field e = view e.value
