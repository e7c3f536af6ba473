use Rattle.std.proofs.Common.{◌≡◌, option_map, ap, ◌∙◌, rules}
use Rattle.serde_json.specs.Find.{get_member}
use Rattle.serde_json.specs.View.{view, members_view}
use Rattle.serde_json.proofs.Views.{view_of_ref, view-lookup}
use Rattle.zarrs_metadata_parts.proofs.extension.MetadataV3.member.Goals as goal

pub returns : goal.returns
returns c =
    let found : option_map (λ value. view value.now) c.get.result ≡ get_member c.args.name.now (members_view c.in_ok-as_ref.field-0.now.entries) =
    view_of_ref c.get.result ∙ ap (option_map view) c.get.ensures.value ∙ view-lookup c.args.name.now c.in_ok-as_ref.field-0.now.entries in
    search (rules, found)
