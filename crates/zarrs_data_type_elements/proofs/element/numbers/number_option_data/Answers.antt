use Rattle.std.proofs.Common.{◌<◌, map, sym, ap, subst, ◌∙◌}
use Rattle.std.specs.Prelude.{All}
use Rattle.std.proofs.lemmas.Result.{IfOk-weaker}
use Rattle.zarrs_data_type_kinds.specs.Kind.{kind}
use Rattle.zarrs_data_type_bytes.specs.ArrayData.{fixed, optional}
use Rattle.zarrs_data_type_bytes.specs.Cells.{cells}
use Rattle.zarrs_data_type_numbers.specs.Options.{option_flag}
use Rattle.zarrs_data_type_elements.proofs.OptionCells.{flags-below}
use Rattle.zarrs_data_type_elements.proofs.OptionNumbers.{cells-options_written}
use Rattle.zarrs_data_type_elements.proofs.element.numbers.number_option_data.Goals as goal

pub with_optional_mask-requires : goal.with_optional_mask-requires
with_optional_mask-requires g c = subst (λ l. All (λ flag. flag < 2) l) (sym c.in_ok-flags.ensures) (flags-below (λ o. o) c.args.options.now)

pub returns : goal.returns
returns g c =
    let t = c.args.data_type.now in
    let k = kind t in
    let os = c.args.options.now in
    IfOk-weaker c.with_optional_mask.result _ _ (λ made is.
    ap (cells k) is
    ∙ ap (λ d. cells k (optional c.in_ok-flags.flags.items d)) c.new_flen-data.ensures
    ∙ ap (λ m. cells k (optional m (fixed c.in_ok-bytes.bytes.items))) c.in_ok-flags.ensures
    ∙ ap (λ b. cells k (optional (map option_flag os) (fixed b))) c.in_ok-bytes.ensures
    ∙ cells-options_written g.T.Bytes.NumberBytes.le_bytes t g.T.Bytes.NumberBytes.size os c.requires g.T.Bytes.NumberBytes.sized) c.with_optional_mask.ensures
