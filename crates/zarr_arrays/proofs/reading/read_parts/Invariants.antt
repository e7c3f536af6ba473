use Rattle.zarrs_subset.specs.Regions.{box_of}
use Rattle.zarrs_engine_calls.specs.ChunkBoxes.{chunks_met}
use Rattle.zarrs_subset.specs.Walks.{positions_left}
use Rattle.zarrs.specs.Arrays.{layout_of_array}
use Rattle.zarr_arrays.specs.Reading.{HasReadPart, KeepsStore, ReadsNoOthers}
use Rattle.zarr_arrays.proofs.Asked.{Each}
use Rattle.zarr_arrays.proofs.reading.read_parts.Given as goal

abbrev pub invariant-loop-indices : goal.invariant-loop-indices
invariant-loop-indices l = record {
  each : Each (HasReadPart (layout_of_array l.array) (box_of l.region) l.store) (chunks_met (layout_of_array l.array).grid (box_of l.region)) (positions_left l.indices-iterator);
  kept : KeepsStore l.initial.store l.store;
  no_others : ReadsNoOthers (layout_of_array l.array) (chunks_met (layout_of_array l.array).grid (box_of l.region)) l.initial.store l.store;
}
