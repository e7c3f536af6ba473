use Rattle.std.proofs.Common.{List, ℕ, refl, ap, ◌∙◌}
use Rattle.zarrs_subset.specs.Regions.{box_of, positions}
use Rattle.zarrs.specs.Arrays.{layout_of_array}
use Rattle.zarr_arrays.specs.Bands.{places_left}
use Rattle.zarr_regions.specs.Cells.{StoresLines}
use Rattle.zarr_regions.proofs.BandLemmas.{read_none, read_more, front_none, front_more, front_all, some_holds, none_holds}
use Rattle.zarr_regions.proofs.storing.store_lines.Goals as goal

pub loop-bands-init : goal.loop-bands-init
loop-bands-init g c =
    let layout = layout_of_array c.args.opened.now.array in
    let rows = c.args.rows.now in
    let store = c.args.opened.now.store in
    let input = g.R.Read.remaining c.args.input.now in
    record {
      front =
          front_none (λ (done : List (List ℕ)). StoresLines layout rows.form rows.size rows.width 0 0 done input input store store) _ _ c.in_ok-bands.ensures
          (read_none layout rows.form rows.size rows.width 0 input store);
      array = refl;
    }

pub loop-bands-preserved : goal.loop-bands-preserved
loop-bands-preserved g c =
    let rows = c.args.rows.now in
    let array = c.args.opened.now.array in
    let old = c.args.opened.now.store in
    let between = c.loop-bands.opened.store in
    let new = c.store_band_lines.new.opened.store in
    let input = g.R.Read.remaining c.args.input.now in
    let middle = g.R.Read.remaining c.loop-bands.input in
    let left = g.R.Read.remaining c.store_band_lines.new.input in
    record {
      front =
          front_more
          (λ (done : List (List ℕ)). StoresLines (layout_of_array array) rows.form rows.size rows.width 0 c.loop-bands.column done input middle old between)
          (λ (done : List (List ℕ)). StoresLines (layout_of_array array) rows.form rows.size rows.width 0 c.in_ok-column.column done input left old new)
          (positions (box_of c.args.region)) (places_left c.loop-bands.bands)
          (places_left c.next.new.self) (positions (box_of c.in-Some.band)) (some_holds _ _ _ c.in-Some.band c.in-Some.is c.in_ok-band.ensures.places)
          (λ done first.
          read_more (layout_of_array array) (layout_of_array c.loop-bands.opened.array) rows.form rows.size rows.width 0 c.loop-bands.column
          c.in_ok-column.column done (positions (box_of c.in-Some.band)) input middle left old between new
          (ap layout_of_array c.loop-bands.invariant.array) first c.in_ok-column.ensures.stored)
          c.loop-bands.invariant.front;
      array = c.store_band_lines.ensures.array ∙ c.loop-bands.invariant.array;
    }

pub returns : goal.returns
returns g c =
    front_all
    (λ (done : List (List ℕ)). StoresLines (layout_of_array c.args.opened.now.array) c.args.rows.now.form c.args.rows.now.size c.args.rows.now.width 0 c.loop-bands.column done (g.R.Read.remaining c.args.input.now) (g.R.Read.remaining c.loop-bands.input)
    c.args.opened.now.store c.loop-bands.opened.store)
    (positions (box_of c.args.region)) (places_left c.loop-bands.bands) (none_holds _ _ _ c.in_default.not-Some c.in_ok-band.ensures.places) c.loop-bands.invariant.front
