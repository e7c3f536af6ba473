use Rattle.std.proofs.Common.{◌≡◌, true, Some, sym, ap, ◌∙◌, subst, arith, IfOk}
use Rattle.std.specs.Prelude.{option_map}
use Rattle.zarrs_metadata_parts.specs.Extension.{extension_view, settings}
use Rattle.zarrs_data_type.specs.TypeMetadata.{is_optional_name}
use Rattle.zarrs_codec_optional.specs.Metadata.{mask_codec_said, cells_codec_said, optional_parts, optional_said}
use Rattle.zarrs_codec_optional.specs.CellsCodecs.{mask_codec_data, cells_codec_data}
use Rattle.zarrs_codec_optional.proofs.OptionalMetadata.{optional_parts-levels, said-optional}
use Rattle.zarrs_codec_optional.proofs.metadata.+codec_of.Goals as goal

pub codec_of-requires : goal.codec_of-requires
codec_of-requires t c =
    let e = extension_view c.args.metadata.now in
    let m = extension_view c.in-Some.mask in
    let i = extension_view c.in-Some.inner in
    let is : optional_parts (settings e) ≡ Some (m, i) = sym c.in_ok-mask.ensures ∙ ap (option_map (λ p. (extension_view p.0, extension_view p.1))) c.in-Some.is in
    (omega (arith, c.decreases, optional_parts-levels (settings e) m i is), tt)

pub returns : goal.returns
returns t c =
    let e = extension_view c.args.metadata.now in
    let m = extension_view c.in-Some.mask in
    let i = extension_view c.in-Some.inner in
    let is : optional_parts (settings e) ≡ Some (m, i) = sym c.in_ok-mask.ensures ∙ ap (option_map (λ p. (extension_view p.0, extension_view p.1))) c.in-Some.is in
    let named : is_optional_name e.name ≡ true = ap is_optional_name (sym c.name.ensures) ∙ sym c.is_optional_name.ensures ∙ c.if-not-is_optional_name.false in
    let same : optional_said (option_map mask_codec_data c.in_ok-flags.flags) (option_map cells_codec_data c.in_ok-found.found) ≡ cells_codec_said e =
    ap (λ o. optional_said o (option_map cells_codec_data c.in_ok-found.found)) c.in_ok-flags.ensures
    ∙ ap (optional_said (mask_codec_said m)) c.in_ok-found.ensures ∙ sym (said-optional e m i named is) in
    subst (λ x. IfOk c.optional_of.result (λ made. option_map cells_codec_data made ≡ x)) same c.optional_of.ensures
