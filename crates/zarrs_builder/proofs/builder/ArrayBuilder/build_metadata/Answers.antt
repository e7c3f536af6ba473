use Rattle.std.proofs.lemmas.Result.{IfErr-weaker}
use Rattle.zarrs_builder.proofs.Order.{document_refused}
use Rattle.zarrs_builder.proofs.builder.ArrayBuilder.build_metadata.Goals as goal

pub returns-clause-made : goal.returns-clause-made
returns-clause-made c = rw c.in_ok-fields.ensures.made c.metadata_of.ensures.made

pub returns-clause-refused : goal.returns-clause-refused
returns-clause-refused c =
    rw c.in_ok-fields.ensures.made (IfErr-weaker c.metadata_of.result _ _ (λ e is. document_refused _ _ _ is) c.metadata_of.ensures.refused)
