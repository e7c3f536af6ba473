use Rattle.std.proofs.Common.{◌≡◌, ◌<◌, List, ℕ, subst, sym, arith, rules}
use Rattle.std.proofs.lemmas.Grind.{common_steps}
use Rattle.std.specs.Prelude.{All, slice_index}
use Rattle.zarrs_subset.specs.Pieces.{piece_at}
use Rattle.zarrs_subset.specs.Regions.{box_of}
use Rattle.zarrs_data_type_bytes.specs.Parts.{TakesAt}
use Rattle.zarrs_data_type_bytes.proofs.Parts.{flags-taken, flags_below-taken}
use Rattle.zarrs_data_type_bytes.proofs.mask.Mask.with_part.Goals as goal

pub new-requires : goal.new-requires
new-requires c =
    let box = box_of c.args.held_box.now in
    let other = box_of c.args.part_box.now in
    let made = c.bytes_with_part-made.result.items in
    let own : c.in_ok-bytes.bytes.items ≡ c.args.self = first_of (search rules, grind (arith, common_steps)) in
    let own_cells = subst (λ (l : List ℕ). TakesAt box other (piece_at 1 c.args.part.now) (piece_at 1 l) (piece_at 1 made)) own c.bytes_with_part-made.ensures.cells in
    let own_flags : All (λ flag. flag < 2) c.args.self = subst (λ (l : List ℕ). All (λ flag. flag < 2) l) c.self.view_is c.self.invariant in
    flags_below-taken box other c.args.part.now c.args.self made c.args.held_box.now.same_length c.args.part_box.now.same_length
    c.requires.part_len c.requires.held_len (omega (arith, c.bytes_with_part-made.ensures.len))
    c.requires.flags own_flags (flags-taken box other c.args.part.now c.args.self made own_cells)

pub returns-clause-flags : goal.returns-clause-flags
returns-clause-flags c =
    let box = box_of c.args.held_box.now in
    let other = box_of c.args.part_box.now in
    let made = c.bytes_with_part-made.result.items in
    let own : c.in_ok-bytes.bytes.items ≡ c.args.self = first_of (search rules, grind (arith, common_steps)) in
    let own_cells = subst (λ (l : List ℕ). TakesAt box other (piece_at 1 c.args.part.now) (piece_at 1 l) (piece_at 1 made)) own c.bytes_with_part-made.ensures.cells in
    subst (λ (l : List ℕ). TakesAt box other (slice_index c.args.part.now) (slice_index c.args.self) (slice_index l)) (sym c.new.ensures)
    (flags-taken box other c.args.part.now c.args.self made own_cells)
