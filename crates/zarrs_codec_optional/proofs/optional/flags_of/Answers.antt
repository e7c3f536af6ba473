use Rattle.std.proofs.Common.{◌≡◌, ap, sym, ◌∙◌, rules}
use Rattle.std.specs.Cow.{cow_slice_items}
use Rattle.zarrs_data_type.specs.ArrayData.{data_of, fixed}
use Rattle.zarrs_codec_optional.proofs.OptionalData.{flags-cells}
use Rattle.zarrs_codec_optional.proofs.optional.flags_of.Goals as goal

pub returns-clause-cells : goal.returns-clause-cells
returns-clause-cells c =
    let made = c.in_ok-owned_bytes.field-0.items in
    let kept : made ≡ cow_slice_items c.in-Fixed.flags = search rules in
    let same : data_of c.args.bools ≡ fixed made = ap data_of c.in-Fixed.is ∙ ap fixed (sym kept) in
    (flags-cells (data_of c.args.bools) made same c.requires).0

pub returns-clause-flags : goal.returns-clause-flags
returns-clause-flags c =
    let made = c.in_ok-owned_bytes.field-0.items in
    let kept : made ≡ cow_slice_items c.in-Fixed.flags = search rules in
    let same : data_of c.args.bools ≡ fixed made = ap data_of c.in-Fixed.is ∙ ap fixed (sym kept) in
    (flags-cells (data_of c.args.bools) made same c.requires).1
