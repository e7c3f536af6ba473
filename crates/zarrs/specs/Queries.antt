-- What queries return and refuse.
use Rattle.std.specs.Prelude.{◌≡◌, ◌==◌, not, if◌then◌else◌, length, Option, None, Result, OnOk, IfOk, IfErr}
use Rattle.std.specs.Option.{option_or}
use Rattle.zarrs_subset.specs.Regions.{Box}
use Rattle.zarrs_engine_calls.specs.Layout.{Layout}
use Rattle.zarrs_engine_calls.specs.ArgumentRefusals.{range_refusal}
use Rattle.zarrs_engine_calls.specs.ChunkBoxes.{is_empty}
use Rattle.zarrs_engine_calls.specs.Refusals.{Refusal, RefusesBy, refusal_of, refuse_if, dimensionality}
use Rattle.zarrs_engine_calls.specs.declared.error.ArrayError.{ArrayError}

-- E10: the region has another number of dimensions than the array
abbrev pub query_refusal : Layout → Box → Option Refusal
query_refusal layout region =
    let given = length region.start in
    refuse_if (not (given == layout.grid.dimensions)) (dimensionality given layout.grid.dimensions)

-- E3: the first chunk of a range that is not empty, or the last one, is none
abbrev pub chunks_refusal : Layout → Box → Option Refusal
chunks_refusal layout range = if is_empty range then None else range_refusal layout range

-- the same; E10: an empty range of another number of dimensions has no box within the array
abbrev pub bounded_chunks_refusal : Layout → Box → Option Refusal
bounded_chunks_refusal layout range = option_or (chunks_refusal layout range) (query_refusal layout range)

-- a query is answered so, and nothing refuses it; or it is refused by this, or for want of memory
pub record Answers {T : Type 0} (refusal : Option Refusal) (is_so : T → Type 0) (result : Result T ArrayError) : Type 0 where
  pub answer : IfOk result is_so
  pub accepted : OnOk result (refusal ≡ None)
  pub refused : IfErr result (λ e. RefusesBy refusal (refusal_of e))

-- a test is passed, and nothing refuses it; or it is refused by this, or for want of memory
pub record Tests (refusal : Option Refusal) (result : Result (Unit {0}) ArrayError) : Type 0 where
  pub accepted : OnOk result (refusal ≡ None)
  pub refused : IfErr result (λ e. RefusesBy refusal (refusal_of e))
