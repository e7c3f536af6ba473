use Rattle.std.proofs.Common.{◌≡◌, ◌∷◌, [], ◌++◌, true, false, Some, map, option_map, refl, sym, ap, ◌∙◌, subst, arith, IfOk}
use Rattle.std.specs.Prelude.{codes}
use Rattle.std.specs.Str.{bytes_eq}
use Rattle.zarrs_metadata_parts.specs.Extension.{extension_view, settings}
use Rattle.zarrs_codec_array.specs.ArrayCodecs.{array_codec_data}
use Rattle.zarrs_codec.specs.Metadata.{bytes_codec_said, array_codecs_said, chain_of_parts, sharding_with}
use Rattle.zarrs_codec.specs.Chains.{bytes_codec_data}
use Rattle.zarrs_codec_optional.specs.ShardingMetadata.{sharding_data}
use Rattle.zarrs_codec_optional.specs.ShardingViews.{sharding_view}
use Rattle.zarrs_codec.proofs.ChainMetadata.{last_read, said-parts}
use Rattle.zarrs_codec.proofs.ShardingMetadata.{sharding-levels, said-cells}
use Rattle.zarrs_codec.proofs.metadata.+codec_from.Goals as goal

pub returns-then-not-is_sharding_name : goal.returns-then-not-is_sharding_name
returns-then-not-is_sharding_name t c =
    let e = extension_view c.args.metadata.now in
    let other : bytes_eq e.name (codes "sharding_indexed") ≡ false = ap (λ n. bytes_eq n (codes "sharding_indexed")) (sym c.name.ensures) ∙ sym c.is_sharding_name.ensures ∙ c.if-not-is_sharding_name.true in
    subst (λ x. IfOk c.cells_codec_from.result (λ found. option_map bytes_codec_data found ≡ x)) (sym (said-cells e other)) c.cells_codec_from.ensures

pub codec_from-requires : goal.codec_from-requires
codec_from-requires t c =
    let e = extension_view c.args.metadata.now in
    let d = sharding_view c.in-Some.parts in
    let last = c.in-Some-split_last.last.now in
    let is : sharding_data (settings e) ≡ Some d = sym c.in_ok-parts.ensures ∙ ap (option_map sharding_view) c.in-Some.is in
    let cut : c.in-Some.parts.codecs.items ≡ c.in-Some-split_last.front.now ++ last ∷ [] = sym c.deref.ensures.value ∙ c.in-Some-split_last.ensures.cases.0 in
    (omega (arith, c.decreases, sharding-levels (settings e) d (extension_view last) is (last_read c.in-Some.parts.codecs.items c.in-Some-split_last.front.now last cut)), tt)

pub returns : goal.returns
returns t c =
    let e = extension_view c.args.metadata.now in
    let d = sharding_view c.in-Some.parts in
    let front = c.in-Some-split_last.front.now in
    let last = c.in-Some-split_last.last.now in
    let is : sharding_data (settings e) ≡ Some d = sym c.in_ok-parts.ensures ∙ ap (option_map sharding_view) c.in-Some.is in
    let cut : c.in-Some.parts.codecs.items ≡ front ++ last ∷ [] = sym c.deref.ensures.value ∙ c.in-Some-split_last.ensures.cases.0 in
    let named : bytes_eq e.name (codes "sharding_indexed") ≡ true = ap (λ n. bytes_eq n (codes "sharding_indexed")) (sym c.name.ensures) ∙ sym c.is_sharding_name.ensures ∙ c.if-not-is_sharding_name.false in
    let fronts = option_map (λ codecs. map array_codec_data codecs.items) c.in_ok-front.front in
    let same : sharding_with d (chain_of_parts fronts (option_map bytes_codec_data c.in_ok-last.last)) ≡ bytes_codec_said e =
    ap (λ o. sharding_with d (chain_of_parts o (option_map bytes_codec_data c.in_ok-last.last))) c.in_ok-front.ensures
    ∙ ap (λ o. sharding_with d (chain_of_parts (array_codecs_said (map extension_view front)) o)) c.in_ok-last.ensures
    ∙ said-parts e d c.in-Some.parts.codecs.items front last named is refl cut in
    subst (λ x. IfOk c.sharding_of.result (λ made. option_map bytes_codec_data made ≡ x)) same c.sharding_of.ensures
