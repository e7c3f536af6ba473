-- Fill values as the metadata of Zarr V2 says them.
use Rattle.std.specs.Prelude.{ℕ, List, Option, None, Some, option_and_then}
use Rattle.serde_json.specs.Data.{Data}
use Rattle.zarrs_metadata_parts.specs.TypesV2.{fill_v3}
use Rattle.zarrs_metadata_parts.specs.declared.types_v2.KindV2.{KindV2}
use Rattle.zarrs_metadata_parts.specs.declared.types_v2.KindV2.TheVariants as cells
use Rattle.zarrs_data_type_kinds.specs.Kind.{Kind}
use Rattle.zarrs_data_type_kinds.specs.Kind as type
use Rattle.zarrs_data_type_kinds.specs.FillMetadata.{fill_said}

-- what the cells of the data type are in Zarr V2, if it has them
abbrev pub cells_v2 : Kind → Option KindV2
cells_v2 type.bool = Some cells.Bool
cells_v2 type.int8 = Some cells.Int8
cells_v2 type.int16 = Some cells.Int16
cells_v2 type.int32 = Some cells.Int32
cells_v2 type.int64 = Some cells.Int64
cells_v2 type.uint8 = Some cells.Uint8
cells_v2 type.uint16 = Some cells.Uint16
cells_v2 type.uint32 = Some cells.Uint32
cells_v2 type.uint64 = Some cells.Uint64
cells_v2 (type.raw size) = None
cells_v2 type.string = Some cells.Text
cells_v2 type.bytes = None
cells_v2 (type.optional inner) = None

-- the V3 metadata of a V2 fill value of the type: null is false, 0 or the empty text, of bool 0 is false and 1 true, of
-- string 0 is the empty text; any other value is its own
abbrev pub fill_as_v3 : Kind → Data → Option Data
fill_as_v3 k d = elim (cells_v2 k) [ None ↦ Some d | Some v ↦ fill_v3 v d ]

-- the bytes of the fill value that V2 metadata says
abbrev pub fill_said_v2 : Kind → Data → Option (List ℕ)
fill_said_v2 k d = option_and_then (λ v. fill_said k v) (fill_as_v3 k d)
