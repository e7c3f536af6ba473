use Rattle.std.proofs.Common.{◌≡◌, ℕ, List, length, ap, ◌∙◌, arith, rules}
use Rattle.std.proofs.lemmas.List.{length-append}
use Rattle.zarrs_data_type_bytes.specs.Offsets.{joined}
use Rattle.zarrs_data_type_bytes.specs.Places.{placed_strings}
use Rattle.zarrs_data_type_bytes.proofs.Placed.{length-joined, placed-joined, places-joined, starts_from}
use Rattle.zarrs_data_type_bytes.proofs.placed_strings.PlacedStrings.with_room.Goals as goal

pub starts_from-requires : goal.starts_from-requires
starts_from-requires c =
    let all = ap (λ (l : List ℕ). length l) c.in_ok-extend_from_slice.ensures.items in
    let joined_len = ap (λ (l : List ℕ). length l) c.bytes-given.ensures in
    omega (arith, length-append c.in_ok-bytes.bytes.items c.bytes-given.result.now, length-joined c.args.strings.now, c.extend_from_slice.new.self.ok, c.extend_from_slice.new.self.small)

pub invariant_of-result : goal.invariant_of-result
invariant_of-result c =
    let all : c.extend_from_slice.new.self.items ≡ joined c.args.strings.now = search rules in
    rw (all, c.in_ok-starts.ensures, c.in_ok-lens.ensures) (places-joined c.args.strings.now)

pub returns : goal.returns
returns c =
    let strings = c.args.strings.now in
    let all : c.extend_from_slice.new.self.items ≡ joined strings = search rules in
    ap (λ b. placed_strings b c.in_ok-starts.starts c.in_ok-lens.lens) all
    ∙ ap (λ l. placed_strings (joined strings) l c.in_ok-lens.lens) c.in_ok-starts.ensures
    ∙ ap (λ l. placed_strings (joined strings) (starts_from 0 strings) l) c.in_ok-lens.ensures
    ∙ placed-joined strings
