-- How many cells a band has at most.
use Rattle.std.specs.Prelude.{ℕ, ◌/◌, ◌^◌, max, unwrap_or}
use Rattle.zarrs_data_type.specs.Kind.{Kind, element_size}

-- how many bytes a cell counts for
abbrev pub cell_bytes : Kind → ℕ
cell_bytes kind = max (unwrap_or (element_size kind) 16) 1

-- how many cells a band has at most: 64 MiB of them, or one
abbrev pub most_cells : Kind → ℕ
most_cells kind = max 1 (2 ^ 26 / cell_bytes kind)
