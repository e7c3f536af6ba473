use Rattle.std.proofs.Common.{List, ℕ}
use Rattle.zarrs_subset.specs.Regions.{box_of, positions}
use Rattle.zarrs.specs.Arrays.{layout_of_array}
use Rattle.zarrs_directory.specs.Directory.{directory_of}
use Rattle.zarr_arrays.specs.Bands.{places_left}
use Rattle.zarr_regions.specs.Cells.{WritesLines}
use Rattle.zarr_regions.proofs.BandLemmas.{lines_none, lines_both, front_none, front_more, front_all, some_holds, none_holds}
use Rattle.zarr_regions.proofs.writing.write_lines.Goals as goal

pub loop-bands-init : goal.loop-bands-init
loop-bands-init g c =
    let layout = layout_of_array c.args.opened.now.array in
    let directory = directory_of c.args.opened.now.store in
    let rows = c.args.rows.now in
    let held = g.W.Write.contents c.args.out.now in
    front_none (λ (done : List (List ℕ)). WritesLines layout directory rows.form rows.size rows.width 0 0 done held held) _ _ c.in_ok-bands.ensures
    (lines_none layout directory rows.form rows.size rows.width 0 held)

pub loop-bands-preserved : goal.loop-bands-preserved
loop-bands-preserved g c =
    let rows = c.args.rows.now in
    let layout = layout_of_array c.args.opened.now.array in
    let directory = directory_of c.args.opened.now.store in
    let old = g.W.Write.contents c.args.out.now in
    let between = g.W.Write.contents c.loop-bands.out in
    let new = g.W.Write.contents c.write_band_lines.new.out in
    front_more
    (λ (done : List (List ℕ)). WritesLines layout directory rows.form rows.size rows.width 0 c.loop-bands.column done old between)
    (λ (done : List (List ℕ)). WritesLines layout directory rows.form rows.size rows.width 0 c.in_ok-column.column done old new)
    (positions (box_of c.args.region)) (places_left c.loop-bands.bands) (places_left c.next.new.self) (positions (box_of c.in-Some.band))
    (some_holds _ _ _ c.in-Some.band c.in-Some.is c.in_ok-band.ensures.places)
    (λ done first.
    lines_both layout directory rows.form rows.size rows.width 0 c.loop-bands.column c.in_ok-column.column done (positions (box_of c.in-Some.band)) old between new
    first c.in_ok-column.ensures)
    c.loop-bands.invariant

pub returns : goal.returns
returns g c =
    front_all
    (λ (done : List (List ℕ)). WritesLines (layout_of_array c.args.opened.now.array) (directory_of c.args.opened.now.store) c.args.rows.now.form c.args.rows.now.size c.args.rows.now.width 0 c.loop-bands.column done (g.W.Write.contents c.args.out.now)
    (g.W.Write.contents c.loop-bands.out))
    (positions (box_of c.args.region)) (places_left c.loop-bands.bands) (none_holds _ _ _ c.in_default.not-Some c.in_ok-band.ensures.places) c.loop-bands.invariant
