use Rattle.std.proofs.Common.{◌≡◌, ap, ◌∙◌, rules}
use Rattle.serde_json.specs.View.{view}
use Rattle.serde_json.specs.declared.value.Value.{Object, the_lemmas}
use Rattle.zarrs_metadata_parts.specs.Extension.{extension_of, extension_data, extension_view}
use Rattle.zarrs_metadata_parts.proofs.ExtensionLaws.{round_trip}
use Rattle.zarrs_metadata_parts.proofs.extension.MetadataV3.to_value.Goals as goal

pub returns-clause-reads_back : goal.returns-clause-reads_back
returns-clause-reads_back c =
    let written : view (Object c.put-2.new.map) ≡ extension_data (extension_view c.args.self.now) = search (rules, the_lemmas) in
    ap extension_of written ∙ round_trip (extension_view c.args.self.now)
