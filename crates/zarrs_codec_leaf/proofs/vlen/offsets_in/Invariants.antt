use Rattle.std.proofs.Common.{◌≡◌, length, map, take}
use Rattle.std.specs.Prelude.{vec_capacity}
use Rattle.std.specs.Int.{w64, from_le_bytes}
use Rattle.zarrs_codec_leaf.proofs.vlen.offsets_in.Given as goal

abbrev pub invariant-loop-cell : goal.invariant-loop-cell
invariant-loop-cell l = record {
  items : l.offsets.items ≡ map (from_le_bytes w64) (take l.cell-index l.cells);
  room : vec_capacity l.offsets ≡ length l.cells;
}
