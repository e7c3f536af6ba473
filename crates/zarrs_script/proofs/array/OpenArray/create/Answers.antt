use Rattle.std.proofs.Common.{refl, ap, ◌∙◌}
use Rattle.std.proofs.lemmas.Grind.{merely}
use Rattle.serde_json.specs.Written.{has_float}
use Rattle.zarrs_metadata.specs.Versions.{MetadataData, data_of_metadata, v3}
use Rattle.zarrs_data_type.specs.Same.{kind_eq-Decides}
use Rattle.zarrs_engine_calls.specs.Layout.{Layout}
use Rattle.zarrs_creation.specs.Meanings.{Meaning}
use Rattle.zarrs.specs.Arrays.{layout_of_array}
use Rattle.zarrs_script.specs.CellTypes.{kind_of_cells}
use Rattle.zarrs_storage.specs.Memory.{open_state}
use Rattle.zarrs_script.proofs.Contents.{new_is_canonical, new_has_none}
use Rattle.zarrs_script.proofs.NewArrays.{same_parts, made_array, is_plain, only_memory, created_at_root}
use Rattle.zarrs_script.proofs.array.OpenArray.create.Goals as goal

pub unreachable-requires : goal.unreachable-requires
unreachable-requires c =
    let told = c.in_ok-document.ensures in
    only_memory _ _ _ (created_at_root _ _ _ _ refl (ap v3 told.2) told.1) c.in-Err.ensures.refused c.in_default.not-OutOfMemory

pub returns-in-Ok-clause-created : goal.returns-in-Ok-clause-created
returns-in-Ok-clause-created c =
    let asked = c.args.creation in
    let told = c.in_ok-document.ensures in
    let made = c.in-Ok.ensures in
    let law = c.an_array_is_its_metadata.ensures in
    let described = made.metadata ∙ ap v3 told.2 in (
      told.0,
      told.1,
      made_array asked.shape.items asked.chunk_shape.items asked.fill.items asked.cell_type _ _ _ _ _ _
          law.layout made.path (same_parts _ _ _ _ described told.1 law.parts) described (made.storage ∙ c.new.ensures) refl,
    )

pub returns-in-Ok-clause-parts : goal.returns-in-Ok-clause-parts
returns-in-Ok-clause-parts c =
    let told = c.in_ok-document.ensures in
    same_parts _ _ _ _ (c.in-Ok.ensures.metadata ∙ ap v3 told.2) told.1 c.an_array_is_its_metadata.ensures.parts

pub invariant_of-result-clause-plain : goal.invariant_of-result-clause-plain
invariant_of-result-clause-plain c =
    let asked = c.args.creation in
    ap (λ (m : MetadataData). has_float (data_of_metadata m)) c.in-Ok.ensures.metadata
    ∙ is_plain asked.shape.items asked.chunk_shape.items asked.fill.items asked.cell_type _ c.in_ok-document.ensures.2

pub invariant_of-result-clause-typed : goal.invariant_of-result-clause-typed
invariant_of-result-clause-typed c =
    let told = c.in_ok-document.ensures in
    let law = c.an_array_is_its_metadata.ensures in
    let are = same_parts _ _ _ _ (c.in-Ok.ensures.metadata ∙ ap v3 told.2) told.1 law.parts in
    (kind_eq-Decides _ (kind_of_cells c.args.creation.cell_type)).1 (ap (λ (layout : Layout). layout.kind) law.layout ∙ ap (λ (m : Meaning). m.kind) are)

pub invariant_of-result-clause-canonical : goal.invariant_of-result-clause-canonical
invariant_of-result-clause-canonical c =
    merely (new_is_canonical _ c.an_array_is_its_metadata.ensures.lawful _ (ap open_state (c.in-Ok.ensures.storage ∙ c.new.ensures)))

pub invariant_of-result-clause-alone : goal.invariant_of-result-clause-alone
invariant_of-result-clause-alone c = new_has_none (layout_of_array c.in-Ok.array) _ (ap open_state (c.in-Ok.ensures.storage ∙ c.new.ensures))
