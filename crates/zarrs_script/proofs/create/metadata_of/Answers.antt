use Rattle.std.proofs.Common.{◌≡◌, ap, ◌∙◌}
use Rattle.zarrs_metadata_parts.specs.Lists.{sizes_of}
use Rattle.zarrs_script.specs.Parts.{document_for}
use Rattle.zarrs_script.proofs.NewArrays.{is_numeric, little_chain, made_parts, says_parts, makes_grid}
use Rattle.zarrs_script.proofs.create.metadata_of.Goals as goal

pub metadata_of_parts-requires-clause-number : goal.metadata_of_parts-requires-clause-number
metadata_of_parts-requires-clause-number c = is_numeric _ c.args.creation.cell_type c.data_type-data_type.ensures

pub returns : goal.returns
returns c =
    let asked = c.args.creation in
    let sizes = c.in_ok-chunk_shape.chunk_shape.items in
    let is : sizes_of sizes ≡ asked.chunk_shape.items = c.in_ok-chunk_shape.ensures ∙ c.deref.ensures.value in
    let are = made_parts asked.shape.items asked.chunk_shape.items asked.fill.items asked.cell_type sizes _ _ _ _ _ is c.in-Ok.ensures.shape c.in-Ok.ensures.configuration
    (little_chain c.new-chain.result _ c.little.result c.new-chain.ensures.array_to_array c.new-2.ensures.items c.new-chain.ensures.array_to_bytes c.little.ensures)
    c.data_type-data_type.ensures c.new-fill_value.ensures in (
      makes_grid asked.shape.items asked.chunk_shape.items sizes is c.in-Ok.ensures.taken,
      says_parts asked.shape.items asked.chunk_shape.items asked.fill.items asked.cell_type _ _ are c.in_ok-metadata.ensures.document c.in_ok-metadata.ensures.says,
      c.in_ok-metadata.ensures.document ∙ ap document_for are,
    )
