use Rattle.std.specs.Prelude.{◌≡◌}
use Rattle.zarrs_subset.specs.Regions.{box_of}
use Rattle.zarrs_subset.specs.Walks.{positions_left}
use Rattle.zarrs_engine_calls.specs.ChunkBoxes.{chunks_met}
use Rattle.zarrs_engine_calls.specs.Reach.{MayReadPart}
use Rattle.zarrs.specs.Arrays.{layout_of_array}
use Rattle.zarrs_directory.specs.Excerpts.{excerpts_of, excerpts_state}
use Rattle.zarr_arrays.proofs.Asked.{Each}
use Rattle.zarr_arrays.proofs.WantedLemmas.{AsksOnly}
use Rattle.zarr_arrays.proofs.reading.read_chunks.Given as goal

abbrev pub invariant-loop-indices : goal.invariant-loop-indices
invariant-loop-indices l = record {
  each : Each (λ index. MayReadPart (layout_of_array l.array) (box_of l.region) index (excerpts_state l.files)) (chunks_met (layout_of_array l.array).grid (box_of l.region)) (positions_left l.indices-iterator);
  only : AsksOnly (layout_of_array l.array) (chunks_met (layout_of_array l.array).grid (box_of l.region)) (excerpts_state l.files);
  same : excerpts_of l.files ≡ excerpts_of l.initial.files;
}
