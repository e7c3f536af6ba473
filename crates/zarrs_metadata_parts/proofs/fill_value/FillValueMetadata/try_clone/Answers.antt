use Rattle.std.proofs.Common.{◌≡◌, List, [], ◌∷◌, refl, ap}
use Rattle.std.specs.List.{AllZip}
use Rattle.std.proofs.lemmas.Result.{MatchResult-weaker}
use Rattle.serde_json.specs.Data.{boolean, number, string, array, object}
use Rattle.serde_json.specs.View.{view, items_view, number_view}
use Rattle.serde_json.specs.declared.value.Value.{Value}
use Rattle.zarrs_metadata_parts.specs.FillValue.{fill_data}
use Rattle.zarrs_metadata_parts.specs.declared.fill_value.FillValueMetadata.{FillValueMetadata}
use Rattle.zarrs_metadata_parts.specs.declared.fill_value.FillValueMetadata.TheVariants as held
use Rattle.zarrs_metadata_parts.specs.contracts.fill_value.FillValueMetadataClone.TheImpl.{by_variants}
use Rattle.zarrs_metadata_parts.proofs.MemberLemmas.{members_view-clone}
use Rattle.zarrs_metadata_parts.proofs.fill_value.FillValueMetadata.try_clone.Goals as goal

items_view-clone : (vs ws : List Value) → AllZip (λ v w. view w ≡ view v) vs ws → items_view ws ≡ items_view vs
items_view-clone [] [] h = refl
items_view-clone [] (w ∷ ws) h = absurd h
items_view-clone (v ∷ vs) [] h = absurd h
items_view-clone (v ∷ vs) (w ∷ ws) h = rw (h.0, items_view-clone vs ws h.1) refl

fill_data-clone : (a b : FillValueMetadata) → by_variants a b → fill_data b ≡ fill_data a
fill_data-clone held.Null held.Null h = refl
fill_data-clone (held.Bool x) (held.Bool y) h = ap boolean h
fill_data-clone (held.Number x) (held.Number y) h = ap (λ n. number (number_view n)) h
fill_data-clone (held.String x) (held.String y) h = ap string h
fill_data-clone (held.Array x) (held.Array y) h = ap array (items_view-clone x.items y.items h.0)
fill_data-clone (held.Object x) (held.Object y) h = ap object (members_view-clone x.entries y.entries h)
fill_data-clone a b h = absurd h

pub returns : goal.returns
returns c = MatchResult-weaker c.clone.result c.clone.ensures.cases (λ copy h. fill_data-clone c.args.self.now copy h) (λ e h. tt)
