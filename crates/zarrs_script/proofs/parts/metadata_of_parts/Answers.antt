use Rattle.std.proofs.Common.{◌∙◌}
use Rattle.zarrs_metadata_v3.specs.View.{document_view}
use Rattle.zarrs_script.proofs.Documents.{same_document, document_says}
use Rattle.zarrs_script.proofs.parts.metadata_of_parts.Goals as goal

pub returns-clause-says : goal.returns-clause-says
returns-clause-says c =
    document_says c.args.grid.now c.args.chain.now c.args.data_type.now c.args.fill_value.now (document_view c.in_ok-metadata.metadata) c.requires.number c.written_fill_value_is_read.ensures
    (c.in_ok-metadata.ensures
    ∙ same_document _ _ _ _ _ _ _ _ _ _ (c.in_ok-shape.ensures.items ∙ c.array_shape.ensures.value) c.in_ok-chunk_grid.ensures c.in_ok-data_type_metadata.ensures.written c.in_ok-fill_value_metadata.ensures c.in_ok-codecs.ensures.written)
