use Rattle.std.proofs.Common.{◌≡◌, true, Some, sym, ap, ◌∙◌, subst, arith, IfOk}
use Rattle.std.specs.Prelude.{option_map}
use Rattle.zarrs_metadata_parts.specs.Extension.{extension_view, settings}
use Rattle.zarrs_data_type_kinds.specs.Kind.{kind, optional}
use Rattle.zarrs_data_type_kinds.specs.TypeMetadata.{is_optional_name, inner_extension, kind_of}
use Rattle.zarrs_data_type_kinds.proofs.TypeReading.{inner_extension-levels, kind_of-inner}
use Rattle.zarrs_data_type_kinds.proofs.metadata.+type_of.Goals as goal

pub type_of-requires : goal.type_of-requires
type_of-requires t c =
    let e = extension_view c.args.metadata.now in
    let i = extension_view c.in-Some.inner in
    let is : inner_extension (settings e) ≡ Some i = sym c.in_ok-inner.ensures ∙ ap (option_map extension_view) c.in-Some.is in
    (omega (arith, c.decreases, inner_extension-levels (settings e) i is), tt)

pub returns : goal.returns
returns t c =
    let e = extension_view c.args.metadata.now in
    let i = extension_view c.in-Some.inner in
    let is : inner_extension (settings e) ≡ Some i = sym c.in_ok-inner.ensures ∙ ap (option_map extension_view) c.in-Some.is in
    let named : is_optional_name e.name ≡ true = ap is_optional_name (sym c.name.ensures) ∙ sym c.is_optional_name.ensures ∙ c.if-not-is_optional_name.false in
    let same : option_map optional (option_map kind c.in_ok-found.found) ≡ kind_of e =
    ap (option_map optional) c.in_ok-found.ensures ∙ sym (kind_of-inner e i named is) in
    subst (λ x. IfOk c.optional_of.result (λ made. option_map kind made ≡ x)) same c.optional_of.ensures
