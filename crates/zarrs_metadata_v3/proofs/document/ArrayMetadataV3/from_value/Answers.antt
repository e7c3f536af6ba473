use Rattle.std.proofs.Common.{rules, ◌≡◌, Some}
use Rattle.serde_json.specs.View.{view}
use Rattle.zarrs_metadata_v3.specs.Document.{document_of}
use Rattle.zarrs_metadata_v3.specs.View.{document_view}
use Rattle.zarrs_metadata_v3.proofs.NormalLaws.{read_document_normal}
use Rattle.zarrs_metadata_v3.proofs.document.ArrayMetadataV3.from_value.Goals as goal

pub returns-clause-normal : goal.returns-clause-normal
returns-clause-normal c =
    let read : document_of (view c.args.value) ≡ Some (document_view c.in_ok-read_document.field-0) = search rules in
    read_document_normal (view c.args.value) (document_view c.in_ok-read_document.field-0) read
