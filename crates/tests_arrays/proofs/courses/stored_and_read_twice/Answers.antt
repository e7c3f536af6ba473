use Rattle.std.proofs.Common.{ap, map}
use Rattle.zarrs_storage.specs.Memory.{open_state}
use Rattle.zarrs_subset.specs.Regions.{box_of}
use Rattle.zarrs_chunk_grid.specs.GridView.{array_extents_of}
use Rattle.zarrs_engine_layout.specs.Layouts.{layout_meaning}
use Rattle.zarrs.specs.Arrays.{layout_of_array, state_of_array}
use Rattle.tests_arrays.proofs.DirectCalls.{same_values, stays_canonical, stored_cells}
use Rattle.tests_arrays.proofs.courses.stored_and_read_twice.Goals as goal

pub returns-clause-cells : goal.returns-clause-cells
returns-clause-cells g c =
    let before = c.args.array.now in
    let after = c.store_array_subset.new.self in
    let lawful = c.an_array_is_its_metadata.ensures.lawful in
    let parts = c.in_ok-store_array_subset.ensures.kept.layout_kept in
    let layout = layout_of_array before in
    let same = ap (λ p. layout_meaning p) parts in
    let stored = c.in_ok-store_array_subset.ensures.done in
    let first = c.in_ok-_first.ensures.cells in
    let second = c.in_ok-second.ensures.cells in
    let shape = ap (λ p. array_extents_of p.grid) parts in
    let one = stored_cells layout (layout_of_array after) lawful same (box_of c.args.region.now) stored.0 first.0 second.0 (state_of_array open_state before) (state_of_array open_state after) shape stored.2 first.1 second.1 c.course_read_after_store.ensures in
    same_values (map g.T.Element.cell c.args.elements.now) (map g.T.Element.cell c.in_ok-second.second.items) layout (layout_of_array after) stored.0 second.0 same stored.1 second.2 one

pub returns-clause-canonical : goal.returns-clause-canonical
returns-clause-canonical g c =
    let before = c.args.array.now in
    let after = c.store_array_subset.new.self in
    let lawful = c.an_array_is_its_metadata.ensures.lawful in
    let parts = c.in_ok-store_array_subset.ensures.kept.layout_kept in
    let stored = c.in_ok-store_array_subset.ensures.done in
    let first = c.in_ok-_first.ensures.cells in
    let second = c.in_ok-second.ensures.cells in
    let shape = ap (λ p. array_extents_of p.grid) parts in
    stays_canonical (layout_of_array before) (layout_of_array after) lawful (ap (λ p. layout_meaning p) parts) (box_of c.args.region.now) stored.0 first.0 second.0 (state_of_array open_state before) (state_of_array open_state after) shape
    stored.2 first.1 second.1 c.courses_keep_canon.ensures
