use Rattle.std.proofs.Common.{ap, ◌∙◌}
use Rattle.std.proofs.lemmas.Result.{IfOk-weaker}
use Rattle.zarrs_metadata_parts.proofs.ListLemmas.{sizes_back}
use Rattle.zarrs_metadata_v2.specs.Document.{document_v2_of, data_v2_with}
use Rattle.zarrs_metadata_v2.specs.View.{document_v2_view}
use Rattle.zarrs_metadata_v2.proofs.DocumentLaws.{data_v2_with_back}
use Rattle.zarrs_metadata_v2.proofs.writing.document_value.Goals as goal

pub returns-clause-written : goal.returns-clause-written
returns-clause-written c =
    let m = document_v2_view c.args.document.now in
    IfOk-weaker c.value_with.result _ _ (λ v h. h ∙ ap (λ a. data_v2_with a m) c.in_ok-attributes.ensures) c.value_with.ensures

pub returns-clause-reads_back : goal.returns-clause-reads_back
returns-clause-reads_back c =
    let m = document_v2_view c.args.document.now in
    IfOk-weaker c.value_with.result _ _ (λ v h. ap document_v2_of (h ∙ ap (λ a. data_v2_with a m) c.in_ok-attributes.ensures) ∙ data_v2_with_back m (sizes_back c.args.document.now.chunks.items)) c.value_with.ensures
