-- What the arguments of a write of a region decide.
use Rattle.std.proofs.Common.{◌≡◌, ℕ, List, Option, Some, None}
use Rattle.zarrs_subset.specs.Regions.{Box}
use Rattle.zarrs_data_type.specs.ArrayData.{ArrayData}
use Rattle.zarrs_engine_calls.specs.Layout.{Layout}
use Rattle.zarrs_engine_calls.specs.ArgumentRefusals.{region_data_refusal, region_refusal, store_region_refusal}
use Rattle.zarrs_engine_calls.specs.Refusals.{Refusal, RefusesBy}
use Rattle.zarrs_engine_calls.proofs.RefusalLemmas.{refusal_moved, refused_first, refused_second}

-- out of memory
pub no_refusal : (first : Option Refusal) (r : Refusal) → RefusesBy None r → RefusesBy first r
no_refusal first r why = refusal_moved None first r (λ x is. absurd (let clash : None ≡ Some x = is in cc)) why

-- the arguments refuse it
pub region_first : (layout : Layout) (shape : List ℕ) (region : Box) (held : ArrayData) (r : Refusal)
    → RefusesBy (region_refusal layout shape region) r → RefusesBy (store_region_refusal layout shape region held) r
region_first layout shape region held r why = refused_first (region_refusal layout shape region) (region_data_refusal layout region held) r why

pub region_second : (layout : Layout) (shape : List ℕ) (region : Box) (held : ArrayData) (r : Refusal)
    → region_refusal layout shape region ≡ None → RefusesBy (region_data_refusal layout region held) r → RefusesBy (store_region_refusal layout shape region held) r
region_second layout shape region held r none why = refused_second (region_refusal layout shape region) (region_data_refusal layout region held) r none why
