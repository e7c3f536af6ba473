-- The data that the cells of a region are.
use Rattle.zarrs_data_type_bytes.specs.ArrayData.{ArrayData, data_of, variable, optional}
use Rattle.zarrs_data_type_region.specs.declared.levels.Level.{Level}
use Rattle.zarrs_data_type_region.specs.declared.levels.Level as level
use Rattle.zarrs_data_type_region.specs.declared.region_cells.Held.{Held}
use Rattle.zarrs_data_type_region.specs.declared.region_cells.Held.TheVariants.{Fixed, Variable}
use Rattle.zarrs_data_type_region.specs.declared.region_cells.RegionCells.{RegionCells}

-- byte strings, or a mask over what is inside
abbrev pub level_data : Level → ArrayData
level_data (level.Strings strings) = variable strings
level_data (level.Masked' p inner mask) = optional mask (level_data inner)

abbrev pub held_data : Held → ArrayData
held_data (Fixed bytes) = data_of bytes
held_data (Variable inside) = level_data inside

-- the data that was put together so far
abbrev pub region_data : RegionCells → ArrayData
region_data cells = held_data cells.held
