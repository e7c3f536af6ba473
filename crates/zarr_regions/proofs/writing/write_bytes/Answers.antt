use Rattle.std.proofs.Common.{List, ℕ}
use Rattle.zarrs_subset.specs.Regions.{box_of, positions}
use Rattle.zarrs.specs.Arrays.{layout_of_array}
use Rattle.zarrs_directory.specs.Directory.{directory_of}
use Rattle.zarr_arrays.specs.Bands.{places_left}
use Rattle.zarr_regions.specs.Cells.{WritesBytes}
use Rattle.zarr_regions.proofs.BandLemmas.{bytes_none, bytes_both, front_none, front_more, front_all, some_holds, none_holds}
use Rattle.zarr_regions.proofs.writing.write_bytes.Goals as goal

pub loop-bands-init : goal.loop-bands-init
loop-bands-init g c =
    let layout = layout_of_array c.args.opened.now.array in
    let directory = directory_of c.args.opened.now.store in
    let held = g.W.Write.contents c.args.out.now in
    front_none (λ (done : List (List ℕ)). WritesBytes layout directory done held held) _ _ c.in_ok-bands.ensures (bytes_none layout directory held)

pub loop-bands-preserved : goal.loop-bands-preserved
loop-bands-preserved g c =
    let layout = layout_of_array c.args.opened.now.array in
    let directory = directory_of c.args.opened.now.store in
    let old = g.W.Write.contents c.args.out.now in
    let between = g.W.Write.contents c.loop-bands.out in
    let new = g.W.Write.contents c.write_band_bytes.new.out in
    front_more (λ (done : List (List ℕ)). WritesBytes layout directory done old between) (λ (done : List (List ℕ)). WritesBytes layout directory done old new)
    (positions (box_of c.args.region)) (places_left c.loop-bands.bands) (places_left c.next.new.self) (positions (box_of c.in-Some.band))
    (some_holds _ _ _ c.in-Some.band c.in-Some.is c.in_ok-band.ensures.places)
    (λ done first. bytes_both layout directory done (positions (box_of c.in-Some.band)) old between new first c.in_ok-write_band_bytes.ensures)
    c.loop-bands.invariant

pub returns : goal.returns
returns g c =
    front_all
    (λ (done : List (List ℕ)). WritesBytes (layout_of_array c.args.opened.now.array) (directory_of c.args.opened.now.store) done (g.W.Write.contents c.args.out.now)
    (g.W.Write.contents c.loop-bands.out))
    (positions (box_of c.args.region)) (places_left c.loop-bands.bands) (none_holds _ _ _ c.in_default.not-Some c.in_ok-band.ensures.places) c.loop-bands.invariant
