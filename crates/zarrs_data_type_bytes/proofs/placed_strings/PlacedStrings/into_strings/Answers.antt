use Rattle.std.proofs.Common.{◌≡◌, ℕ, List, length, ap, sym, subst, ◌∙◌, arith}
use Rattle.std.proofs.lemmas.Bool.{false≢true}
use Rattle.zarrs_data_type_bytes.specs.Offsets.{AreOffsets, byte_strings, joined, last_offset}
use Rattle.zarrs_data_type_bytes.specs.Places.{offsets_from, placed_strings}
use Rattle.zarrs_data_type_bytes.proofs.Joins.{are_offsets, covers_all, cut_again, length_offsets}
use Rattle.zarrs_data_type_bytes.proofs.placed_strings.PlacedStrings.into_strings.Goals as goal

pub index-requires : goal.index-requires
index-requires c =
    let items = ap (λ (l : List ℕ). length l) c.in_ok-offsets.ensures in
    omega (arith, length_offsets c.self.inside.lens, c.in_ok-offsets.offsets.ok.0, c.len.ensures)

pub unreachable-requires : goal.unreachable-requires
unreachable-requires c = false≢true (c.in_default.ensures.accepted.1 (subst AreOffsets (sym c.in_ok-offsets.ensures) (are_offsets c.self.inside.lens)))

pub unreachable-requires-in_default-new : goal.unreachable-requires-in_default-new
unreachable-requires-in_default-new c =
    let starts = c.self.inside.starts in
    let lens = c.self.inside.lens in
    let all : c.in_ok-made.made.items ≡ joined (placed_strings c.self.inside.bytes.items starts lens) =
    c.in_ok-made.ensures ∙ ap (λ b. joined (placed_strings b starts lens)) c.as_slice.ensures.value in
    let covered : last_offset c.in-Ok.offsets ≡ length c.in_ok-made.made.items =
    ap last_offset (c.in-Ok.ensures.made ∙ c.in_ok-offsets.ensures) ∙ covers_all c.self.inside.bytes.items starts lens c.self.invariant ∙ sym (ap (λ (l : List ℕ). length l) all) in
    false≢true (c.in_default-new.ensures.accepted.1 covered)

pub returns : goal.returns
returns c =
    let starts = c.self.inside.starts in
    let lens = c.self.inside.lens in
    let all : c.in_ok-made.made.items ≡ joined (placed_strings c.self.inside.bytes.items starts lens) =
    c.in_ok-made.ensures ∙ ap (λ b. joined (placed_strings b starts lens)) c.as_slice.ensures.value in
    c.in-Ok-new.ensures.made
    ∙ ap (λ o. byte_strings o c.in_ok-made.made.items) (c.in-Ok.ensures.made ∙ c.in_ok-offsets.ensures)
    ∙ ap (byte_strings (offsets_from lens)) all
    ∙ cut_again c.self.inside.bytes.items starts lens c.self.invariant
    ∙ c.self.view_is
