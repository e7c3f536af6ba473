-- Why a fill value or its metadata is refused.
use Rattle.std.specs.Prelude.{◌≡◌, Option, None}
use Rattle.zarrs_data_type_kinds.specs.declared.error.DataTypeFillValueError.{DataTypeFillValueError}
use Rattle.zarrs_data_type_kinds.specs.declared.error.DataTypeFillValueError.TheVariants as fill
use Rattle.zarrs_data_type_kinds.specs.declared.error.DataTypeFillValueMetadataError.{DataTypeFillValueMetadataError}
use Rattle.zarrs_data_type_kinds.specs.declared.error.DataTypeFillValueMetadataError.TheVariants as metadata

-- the metadata says no fill value of the type, or out of memory
abbrev pub RefusesFillMetadata : {A : Type 0} → Option A → DataTypeFillValueMetadataError → Type 0
RefusesFillMetadata said metadata.Invalid = said ≡ None
RefusesFillMetadata said metadata.OutOfMemory = Unit {0}

-- the bytes are no fill value of the type, or out of memory
abbrev pub RefusesFill : {A : Type 0} → Option A → DataTypeFillValueError → Type 0
RefusesFill value fill.Invalid = value ≡ None
RefusesFill value fill.OutOfMemory = Unit {0}
