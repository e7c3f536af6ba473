use Rattle.std.proofs.Common.{ap, ◌∙◌}
use Rattle.std.proofs.lemmas.Result.{IfOk-weaker}
use Rattle.zarrs_metadata_v3.specs.Document.{document_of}
use Rattle.zarrs_metadata_v3.specs.View.{document_view}
use Rattle.zarrs_metadata_v3.proofs.DocumentLaws.{document_round_trip}
use Rattle.zarrs_metadata_v3.proofs.document.ArrayMetadataV3.to_value.Goals as goal

pub returns-clause-reads_back : goal.returns-clause-reads_back
returns-clause-reads_back c = IfOk-weaker c.document_value.result _ _ (λ v h. ap document_of h ∙ document_round_trip (document_view c.args.self.now)) c.document_value.ensures
