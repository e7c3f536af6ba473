use Rattle.std.proofs.Common.{◌≡◌, ◌≤◌, Some, sym, ap, ◌∙◌, subst}
use Rattle.serde_json.specs.Data.{Data, depth}
use Rattle.serde_json.specs.Read.{read, max_depth}
use Rattle.serde_json.specs.Written.{IsInOrder}
use Rattle.zarrs_metadata_v2.specs.Document.{document_v2_of, without_attributes}
use Rattle.zarrs_metadata_v2.specs.View.{document_v2_view}
use Rattle.zarrs_metadata_v2.proofs.TextLaws.{written_text}
use Rattle.zarrs_metadata_v2.proofs.document.ArrayMetadataV2.to_vec_pretty.Goals as goal

pub returns : goal.returns
returns c =
    let m = without_attributes (document_v2_view c.args.self.now) in
    let written = c.in_ok-value.ensures.written in
    written_text m c.in_ok-bytes.bytes.items c.in_ok-bytes.ensures.layout c.in_ok-bytes.ensures.utf8
    (subst (λ (d : Data). IsInOrder c.in_ok-bytes.bytes.items d) written c.in_ok-bytes.ensures.order)
    (sym (ap document_v2_of written) ∙ c.in_ok-value.ensures.reads_back)
    (subst (λ (d : Data). depth d ≤ max_depth → read c.in_ok-bytes.bytes.items ≡ Some d) written c.in_ok-bytes.ensures.reads_back)
