use Rattle.std.proofs.Common.{◌≡◌, ◌*◌, ◌∙◌, ℕ, List, length, ap, subst}
use Rattle.std.specs.Prelude.{slice_index}
use Rattle.zarrs_subset.specs.Boxes.{position_count}
use Rattle.zarrs_subset.specs.Regions.{box_of}
use Rattle.zarrs_data_type_bytes.specs.Parts.{TakesAt}
use Rattle.zarrs_data_type_bytes.specs.Places.{numbers_in}
use Rattle.zarrs_data_type_bytes.proofs.NumberCells.{bytes_len, numbers_len, numbers-taken}
use Rattle.zarrs_data_type_bytes.proofs.numbers.Numbers.with_part.Goals as goal

pub bytes_with_part-bytes-requires-clause-held_len : goal.bytes_with_part-bytes-requires-clause-held_len
bytes_with_part-bytes-requires-clause-held_len c =
    bytes_len c.self.inside.bytes.items (position_count (box_of c.args.held_box.now).shape) c.self.invariant (ap length c.self.view_is ∙ c.requires.held_len)

pub bytes_with_part-bytes-requires-clause-part_len : goal.bytes_with_part-bytes-requires-clause-part_len
bytes_with_part-bytes-requires-clause-part_len c =
    ap (λ (l : List ℕ). length l) c.as_slice.ensures.value
    ∙ bytes_len c.part.inside.bytes.items (position_count (box_of c.args.part_box.now).shape) c.part.invariant (ap length c.part.view_is ∙ c.requires.part_len)

pub returns-clause-len : goal.returns-clause-len
returns-clause-len c = numbers_len c.bytes_with_part-bytes.result.items (position_count (box_of c.args.held_box.now).shape) c.bytes_with_part-bytes.ensures.len

pub returns-clause-numbers : goal.returns-clause-numbers
returns-clause-numbers c =
    let box = box_of c.args.held_box.now in
    let other = box_of c.args.part_box.now in
    let own = c.self.inside.bytes.items in
    let given = c.as_slice.result.now in
    let made = c.bytes_with_part-bytes.result.items in
    let own_len = bytes_len own (position_count box.shape) c.self.invariant (ap length c.self.view_is ∙ c.requires.held_len) in
    let given_len : length given ≡ position_count other.shape * 8 =
    ap (λ (l : List ℕ). length l) c.as_slice.ensures.value
    ∙ bytes_len c.part.inside.bytes.items (position_count other.shape) c.part.invariant (ap length c.part.view_is ∙ c.requires.part_len) in
    let taken = numbers-taken box other given own made c.args.held_box.now.same_length c.args.part_box.now.same_length given_len own_len c.bytes_with_part-bytes.ensures.len c.bytes_with_part-bytes.ensures.cells in
    subst (λ (l : List ℕ). TakesAt box other (slice_index l) (slice_index c.args.self) (slice_index (numbers_in made))) (ap numbers_in c.as_slice.ensures.value ∙ c.part.view_is)
    (subst (λ (l : List ℕ). TakesAt box other (slice_index (numbers_in given)) (slice_index l) (slice_index (numbers_in made))) c.self.view_is taken)
