use Rattle.std.proofs.Common.{◌+◌, ◌*◌, length-append, arith, refl}
use Rattle.std.specs.Prelude.{slice_index, slice_range}
use Rattle.zarrs_data_type_bytes.proofs.Pieces.{fixed_push, length-fixed_cell}
use Rattle.zarrs_data_type_bytes.proofs.array_bytes.select.select_fixed.Goals as goal

pub loop-place-preserved : goal.loop-place-preserved
loop-place-preserved c =
    let i = c.loop-place.place-index in
    let size = c.args.size in
    let place = slice_index c.args.places.now i in
    let bytes = c.args.bytes.now in
    let piece = slice_range bytes (place * size) (place * size + size) in
    let in_places = c.requires.2 i 0 (omega arith) in
    let one = length-fixed_cell bytes size c.requires.0 place c.requires.1 in_places in
    let items = c.in_ok-extend_from_slice.ensures.items in
    let cell = c.fixed_cell.ensures in
    record {
      len = rw (items, cell) (omega (arith, length-append c.loop-place.selected.items piece, one, c.loop-place.invariant.len));
      cells = rw (items, cell) (fixed_push c.loop-place.selected.items piece size i (λ k. slice_range bytes (slice_index c.args.places.now k * size) (slice_index c.args.places.now k * size + size)) c.loop-place.invariant.len one c.loop-place.invariant.cells refl);
    }
