use Rattle.std.proofs.Common.{List, ℕ, subst, arith}
use Rattle.zarrs_subset.specs.Pieces.{piece_at}
use Rattle.zarrs_subset.specs.Regions.{box_of}
use Rattle.zarrs_data_type_bytes.specs.Parts.{ExtractsAt}
use Rattle.zarrs_data_type_bytes.proofs.Parts.{flags-extracted, flags_below-extracted}
use Rattle.zarrs_data_type_bytes.proofs.mask.Mask.extract.Goals as goal

pub new-requires : goal.new-requires
new-requires c =
    let box = box_of c.args.held_box.now in
    let other = box_of c.args.subset.now in
    let made = c.in_ok-made.made.items in
    let cells = subst (λ (l : List ℕ). ExtractsAt box (piece_at 1 l) other (piece_at 1 made)) c.as_slice.ensures.bytes c.in_ok-made.ensures.cells in
    flags_below-extracted box other c.args.self.now made c.args.held_box.now.same_length c.args.subset.now.same_length c.requires.inside
    c.requires.held_len (omega (arith, c.in_ok-made.ensures.len)) c.as_slice.ensures.flags
    (flags-extracted box other c.args.self.now made cells)
