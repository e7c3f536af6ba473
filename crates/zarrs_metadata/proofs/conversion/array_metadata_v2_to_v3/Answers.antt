use Rattle.std.proofs.Common.{◌≡◌, Some, None, Ok, option_map, sym, ap, ◌∙◌}
use Rattle.zarrs_metadata_parts.specs.FillValue.{fill_data}
use Rattle.zarrs_metadata.specs.Conversion.{type_v2, fill_v3}
use Rattle.zarrs_metadata_v2.specs.View.{document_v2_view}
use Rattle.zarrs_metadata.proofs.ConversionLaws.{none_of, without_type, without_fill, without_codecs, with_all}
use Rattle.zarrs_metadata.proofs.conversion.array_metadata_v2_to_v3.Goals as goal

pub returns-in_default-clause-refused : goal.returns-in_default-clause-refused
returns-in_default-clause-refused c =
    let m = document_v2_view c.args.metadata.now in
    let none : type_v2 m.dtype ≡ None = ap type_v2 (sym c.as_str.ensures) ∙ sym c.from_text.ensures ∙ none_of _ c.in_default.not-Some in
    rw (c.in_ok-dtype.ensures.ok ∙ c.as_str-in_default.ensures) (without_type m none)

pub returns-in_default-2-clause-refused : goal.returns-in_default-2-clause-refused
returns-in_default-2-clause-refused c =
    let m = document_v2_view c.args.metadata.now in
    let is : type_v2 m.dtype ≡ Some c.in-Some.cells = ap type_v2 (sym c.as_str.ensures) ∙ sym c.from_text.ensures ∙ c.in-Some.is in
    let none : fill_v3 c.in-Some.cells.kind m.fill_value ≡ None = sym c.in_ok-fill_value.ensures ∙ ap (option_map fill_data) (none_of _ c.in_default-2.not-Some) in
    rw (c.in_ok-from_str.ensures.ok ∙ c.as_str-in_default-2.ensures, c.in_ok-try_clone.ensures) (without_fill m c.in-Some.cells is none)

pub returns-then-not-is_uncompressed-clause-refused : goal.returns-then-not-is_uncompressed-clause-refused
returns-then-not-is_uncompressed-clause-refused c =
    let m = document_v2_view c.args.metadata.now in
    let is : type_v2 m.dtype ≡ Some c.in-Some.cells = ap type_v2 (sym c.as_str.ensures) ∙ sym c.from_text.ensures ∙ c.in-Some.is in
    let filled : fill_v3 c.in-Some.cells.kind m.fill_value ≡ Some (fill_data c.in-Some-2.fill_value) = sym c.in_ok-fill_value.ensures ∙ ap (option_map fill_data) c.in-Some-2.is in
    without_codecs m c.in-Some.cells (fill_data c.in-Some-2.fill_value) is filled (sym c.is_uncompressed.ensures ∙ c.if-not-is_uncompressed.true)

pub returns-clause-converted : goal.returns-clause-converted
returns-clause-converted c =
    let m = document_v2_view c.args.metadata.now in
    let is : type_v2 m.dtype ≡ Some c.in-Some.cells = ap type_v2 (sym c.as_str.ensures) ∙ sym c.from_text.ensures ∙ c.in-Some.is in
    let filled : fill_v3 c.in-Some.cells.kind m.fill_value ≡ Some (fill_data c.in-Some-2.fill_value) = sym c.in_ok-fill_value.ensures ∙ ap (option_map fill_data) c.in-Some-2.is in
    with_all m c.in-Some.cells (fill_data c.in-Some-2.fill_value) is filled (sym c.is_uncompressed.ensures ∙ c.if-not-is_uncompressed.false) ∙ ap Ok (sym c.in_ok-document.ensures)
