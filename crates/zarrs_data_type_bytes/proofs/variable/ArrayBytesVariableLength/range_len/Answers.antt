use Rattle.std.proofs.Common.{◌+◌, ◌-◌, ◌≤◌, length, ap, ◌∙◌, arith}
use Rattle.std.specs.Prelude.{slice_index, slice_range, sum_by}
use Rattle.std.specs.Cow.{cow_slice_items}
use Rattle.zarrs_data_type_bytes.proofs.ByteStrings.{length_strings, sum_run}
use Rattle.zarrs_data_type_bytes.proofs.variable.ArrayBytesVariableLength.range_len.Goals as goal

pub returns : goal.returns
returns c =
    let cuts = c.self.inside.offsets in
    let bytes = cow_slice_items c.self.inside.bytes in
    let from = c.args.from in
    let to = from + c.args.count in
    let long : to + 1 ≤ length cuts = omega (arith, c.requires, length_strings cuts bytes, ap length c.self.view_is, c.self.invariant.are_offsets.not_empty) in
    ap (λ xs. slice_index xs to - slice_index xs from) c.as_slice-cuts.ensures.offsets
    ∙ sum_run cuts bytes c.self.invariant from c.args.count long
    ∙ ap (λ l. sum_by length (slice_range l from to)) c.self.view_is
