use Rattle.std.proofs.Common.{refl}
use Rattle.std.proofs.lemmas.Bool.{false≢true}
use Rattle.std.proofs.lemmas.Result.{IfOk-weaker}
use Rattle.zarrs_subset.specs.Regions.{box_of}
use Rattle.zarrs_data_type_bytes.specs.Places.{string_of}
use Rattle.zarrs_data_type_bytes.proofs.SharedBoxes.{cut_len, nothing_taken, shared_dimensions, shared_inside, taken_through}
use Rattle.zarrs_data_type_bytes.proofs.placed_strings.PlacedStrings.with_part.Goals as goal

pub returns-then-is_empty-clause-strings : goal.returns-then-is_empty-clause-strings
returns-then-is_empty-clause-strings c =
    nothing_taken (box_of c.args.held_box.now) (box_of c.args.part_box.now) (box_of c.in_ok-shared.shared)
    c.args.held_box.now.same_length c.args.part_box.now.same_length c.in_ok-shared.shared.same_length c.requires.dimensions c.in_ok-shared.ensures.value
    (string_of c.args.part.now) (string_of c.args.self) (c.if-is_empty.ensures.0 refl)

pub extract_strings-requires-clause-inside : goal.extract_strings-requires-clause-inside
extract_strings-requires-clause-inside c =
    shared_inside (box_of c.args.held_box.now) (box_of c.args.part_box.now) (box_of c.in_ok-shared.shared)
    c.args.held_box.now.same_length c.args.part_box.now.same_length c.in_ok-shared.shared.same_length c.requires.dimensions c.in_ok-shared.ensures.value
    (λ k lt none. false≢true (c.if-is_empty.ensures.1 (k, lt, none)))

pub with_all-requires-2-clause-dimensions : goal.with_all-requires-2-clause-dimensions
with_all-requires-2-clause-dimensions c =
    shared_dimensions (box_of c.args.held_box.now) (box_of c.args.part_box.now) (box_of c.in_ok-shared.shared)
    c.args.held_box.now.same_length c.args.part_box.now.same_length c.in_ok-shared.shared.same_length c.requires.dimensions c.in_ok-shared.ensures.value

pub with_all-requires-2-clause-part_len : goal.with_all-requires-2-clause-part_len
with_all-requires-2-clause-part_len c =
    cut_len (box_of c.args.held_box.now) (box_of c.args.part_box.now) (box_of c.in_ok-shared.shared)
    c.args.held_box.now.same_length c.args.part_box.now.same_length c.in_ok-shared.shared.same_length c.requires.dimensions c.in_ok-shared.ensures.value
    c.args.part.now c.in_ok-inside.inside c.in_ok-inside.ensures

pub returns-clause-strings : goal.returns-clause-strings
returns-clause-strings c =
    IfOk-weaker c.with_all-2.result _ _
    (λ made taken. taken_through (box_of c.args.held_box.now) (box_of c.args.part_box.now) (box_of c.in_ok-shared.shared)
    c.args.held_box.now.same_length c.args.part_box.now.same_length c.in_ok-shared.shared.same_length c.requires.dimensions c.in_ok-shared.ensures.value
    c.args.part.now c.in_ok-inside.inside c.in_ok-inside.ensures (string_of c.args.self) (string_of made) taken)
    c.with_all-2.ensures.strings
