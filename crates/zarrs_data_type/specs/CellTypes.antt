-- What contracts say of a type of cells and of a chunk.
use Rattle.std.specs.Prelude.{ℕ, List}
use Rattle.zarrs_data_type_kinds.specs.Kind.{Kind, kind}
use Rattle.zarrs_data_type_kinds.specs.Cell.{Cell, fill_of}
use Rattle.zarrs_data_type_kinds.specs.declared.cell_type.CellType.{CellType}
use Rattle.zarrs_data_type.specs.declared.chunk_type.ChunkType.{ChunkType}

-- the type of the cells, and the fill cell
abbrev pub kind_of : CellType → Kind
kind_of t = kind t.data_type

abbrev pub filling : CellType → Cell
filling t = fill_of (kind t.data_type) t.fill_value

-- the same of a chunk, and its extents
abbrev pub chunk_kind : ChunkType → Kind
chunk_kind c = kind_of c.cell_type.now

abbrev pub chunk_fill : ChunkType → Cell
chunk_fill c = filling c.cell_type.now

abbrev pub shape_of : ChunkType → List ℕ
shape_of c = c.shape.now
