use Rattle.std.proofs.Common.{◌∙◌, ◌+◌, ℕ, List, length, take, ap, sym, arith}
use Rattle.std.specs.Prelude.{sum_by}
use Rattle.std.proofs.lemmas.List.{length-append}
use Rattle.std.proofs.lemmas.List.FromFn.{length-map-range_with_len}
use Rattle.zarrs_subset.specs.Regions.{box_of}
use Rattle.zarrs_data_type_bytes.proofs.Placed.{length_placed, length-joined, put-in}
use Rattle.zarrs_data_type_bytes.proofs.placed_strings.PlacedStrings.with_all.Goals as goal

pub starts_from-requires : goal.starts_from-requires
starts_from-requires c =
    let own = c.self.inside.bytes.items in
    let given = c.bytes.result.now in
    let all = ap (λ (l : List ℕ). length l) c.in_ok-extend_from_slice.ensures.items in
    let joined_len = ap (λ (l : List ℕ). length l) c.bytes.ensures in
    omega (arith, length-append own given, length-joined c.args.part.now, c.len-from.ensures, c.extend_from_slice.new.self.ok, c.extend_from_slice.new.self.small)

pub with_part-requires-clause-held_len : goal.with_part-requires-clause-held_len
with_part-requires-clause-held_len c =
    sym (length_placed c.self.inside.bytes.items c.self.inside.starts c.self.inside.lens) ∙ ap length c.self.view_is ∙ c.requires.held_len

pub with_part-requires-clause-part_len : goal.with_part-requires-clause-part_len
with_part-requires-clause-part_len c =
    ap length c.in_ok-part_starts.ensures
    ∙ length-map-range_with_len (λ k. c.len-from.result + sum_by length (take k c.args.part.now)) 0 (length c.args.part.now)
    ∙ c.requires.part_len

pub with_part-requires-2-clause-held_len : goal.with_part-requires-2-clause-held_len
with_part-requires-2-clause-held_len c =
    c.self.invariant.same_length
    ∙ sym (length_placed c.self.inside.bytes.items c.self.inside.starts c.self.inside.lens) ∙ ap length c.self.view_is ∙ c.requires.held_len

pub invariant_of-result : goal.invariant_of-result
invariant_of-result c =
    (put-in (box_of c.args.held_box.now) (box_of c.args.part_box.now) c.self.inside.bytes.items c.self.inside.starts c.self.inside.lens
    c.extend_from_slice.new.self.items c.with_part.result c.with_part-2.result c.args.self c.args.part.now c.len-from.result c.bytes.result.now
    c.in_ok-part_starts.part_starts c.in_ok-part_lens.part_lens
    c.args.held_box.now.same_length c.args.part_box.now.same_length c.self.invariant c.self.view_is c.requires.held_len c.requires.part_len
    (omega (arith, c.len-from.ensures)) c.bytes.ensures c.in_ok-extend_from_slice.ensures.items c.in_ok-part_starts.ensures c.in_ok-part_lens.ensures
    c.with_part.ensures.len c.with_part-2.ensures.len c.with_part.ensures.numbers c.with_part-2.ensures.numbers).places

pub returns-clause-len : goal.returns-clause-len
returns-clause-len c = length_placed c.extend_from_slice.new.self.items c.with_part.result c.with_part-2.result ∙ c.with_part.ensures.len

pub returns-clause-strings : goal.returns-clause-strings
returns-clause-strings c =
    (put-in (box_of c.args.held_box.now) (box_of c.args.part_box.now) c.self.inside.bytes.items c.self.inside.starts c.self.inside.lens
    c.extend_from_slice.new.self.items c.with_part.result c.with_part-2.result c.args.self c.args.part.now c.len-from.result c.bytes.result.now
    c.in_ok-part_starts.part_starts c.in_ok-part_lens.part_lens
    c.args.held_box.now.same_length c.args.part_box.now.same_length c.self.invariant c.self.view_is c.requires.held_len c.requires.part_len
    (omega (arith, c.len-from.ensures)) c.bytes.ensures c.in_ok-extend_from_slice.ensures.items c.in_ok-part_starts.ensures c.in_ok-part_lens.ensures
    c.with_part.ensures.len c.with_part-2.ensures.len c.with_part.ensures.numbers c.with_part-2.ensures.numbers).strings
