-- What a read leaves in a target depends on the places that it needs.
use Rattle.std.proofs.Common.{◌≡◌, ℕ, Bool, not, List, Option, None, Some}
use Rattle.std.specs.Cmp.Lexicographic.{pointwise}
use Rattle.std.specs.Option.{option_or}
use Rattle.std.specs.Prelude.{nat_eq}
use Rattle.zarrs_subset.specs.Regions.{Box}
use Rattle.zarrs_data_type.specs.Kind.{is_variable}
use Rattle.zarrs_data_type.specs.States.{target_box}
use Rattle.zarrs_data_type.specs.Targets.{takes_type}
use Rattle.zarrs_engine_calls.specs.ArgumentRefusals.{dimensions_refusal, into_refusal, region_refusal}
use Rattle.zarrs_engine_calls.specs.ChunkBoxes.{chunks_met}
use Rattle.zarrs_engine_calls.specs.Layout.{Layout}
use Rattle.zarrs_engine_calls.specs.Refusals as refusal
use Rattle.zarrs_engine_calls.specs.Refusals.{Refusal, refuse_if}
use Rattle.zarrs_engine_calls.proofs.Places.{region_alike}
use Rattle.zarrs_engine_calls.proofs.Reached.{region_boxed}
use Rattle.zarrs_engine.specs.PlaceLaws.{TargetReadsDependOnPlaces}

last_none : (a b : Option Refusal) → option_or a b ≡ None → b ≡ None
last_none None b none = none
last_none (Some r) b none = absurd (cc)

-- a target is accepted only for a region that is
takes_covered : (layout : Layout) (shape : List ℕ) (region : Box) (fits : Bool) (target : List ℕ) → into_refusal layout shape region fits target ≡ None → region_refusal layout shape region ≡ None
takes_covered layout shape region fits target none =
    let shaped = refuse_if (not (pointwise nat_eq target region.shape)) (refusal.data_shape target region.shape) in
    let covered = region_refusal layout shape region in
    let typed = refuse_if (not fits) refusal.codec in
    last_none shaped covered
    (last_none typed (option_or shaped covered)
    (last_none (refuse_if (is_variable layout.kind) refusal.codec) (option_or typed (option_or shaped covered))
    (last_none (dimensions_refusal layout shape region) (option_or (refuse_if (is_variable layout.kind) refusal.codec) (option_or typed (option_or shaped covered))) none)))

pub target_reads_depend : TargetReadsDependOnPlaces
target_reads_depend layout lawful shape region old new a b agree r = record {
  held = r.held;
  accepted = r.accepted;
  reads = region_alike layout lawful a b region (chunks_met layout.grid region) r.held
      (region_boxed layout lawful shape region r.reads.long (takes_covered layout shape region (takes_type old.cell_size old.depth layout.kind) (target_box old).shape r.accepted)) agree r.reads;
  written = r.written;
}
